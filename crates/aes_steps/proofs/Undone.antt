-- Each step keeps states of bytes and is undone by its inverse, and the other way round.
use Rattle.std.proofs.Common.{◌≡◌, ℕ, ◌+◌, ◌-◌, ◌*◌, ◌%◌, ◌<◌, List, length, refl, ap, ◌∙◌, arith}
use Rattle.aes_steps.specs.Sbox.{s_box, inv_s_box}
use Rattle.aes_steps.specs.Steps.{at, state, sub_bytes, inv_sub_bytes, shift_rows, inv_shift_rows, mix, inv_mix, in_column, mix_columns, inv_mix_columns}
use Rattle.aes_steps.proofs.Sboxes.{s_box_undone, inv_s_box_undone, s_box_lt, inv_s_box_lt}
use Rattle.aes_steps.proofs.Columns.{Rule, after, mix_undone, inv_mix_undone, mix_lt, inv_mix_lt}
use Rattle.aes_steps.proofs.States.{Block, at_state, state_is, state_block}

pub sub_bytes_undone : (s : List ℕ) → Block s → inv_sub_bytes (sub_bytes s) ≡ s
unfolding sub_bytes inv_sub_bytes
sub_bytes_undone s b =
    state_is (λ r c. inv_s_box (at (state (λ i j. s_box (at s i j))) r c)) s b.len
    (λ r c hr hc. ap inv_s_box (at_state (λ i j. s_box (at s i j)) r c hr hc) ∙ s_box_undone (at s r c) (b.fits (r + 4 * c)))

pub inv_sub_bytes_undone : (s : List ℕ) → Block s → sub_bytes (inv_sub_bytes s) ≡ s
unfolding sub_bytes inv_sub_bytes
inv_sub_bytes_undone s b =
    state_is (λ r c. s_box (at (state (λ i j. inv_s_box (at s i j))) r c)) s b.len
    (λ r c hr hc. ap s_box (at_state (λ i j. inv_s_box (at s i j)) r c hr hc) ∙ inv_s_box_undone (at s r c) (b.fits (r + 4 * c)))

pub sub_bytes_block : (s : List ℕ) → Block s → Block (sub_bytes s)
unfolding sub_bytes
sub_bytes_block s b = state_block (λ r c. s_box (at s r c)) (λ r c hr hc. s_box_lt (at s r c) (b.fits (r + 4 * c)))

pub inv_sub_bytes_block : (s : List ℕ) → Block s → Block (inv_sub_bytes s)
unfolding inv_sub_bytes
inv_sub_bytes_block s b = state_block (λ r c. inv_s_box (at s r c)) (λ r c hr hc. inv_s_box_lt (at s r c) (b.fits (r + 4 * c)))

-- a column moved to the right by m and then to the left by n, where that is once around or nothing
moved : (c m n k : ℕ) → k ≡ (c + m) % 4 → c < 4 → (m + n) % 4 ≡ 0 → (k + n) % 4 ≡ c
moved c m n k e h z = omega arith

-- states whose rows are turned, each by its own number of places
turned_undone : (f g : ℕ → ℕ) → ((r : ℕ) → r < 4 → (g r + f r) % 4 ≡ 0) → (s : List ℕ) → length s ≡ 16
    → state (λ r c. at (state (λ i j. at s i ((j + f i) % 4))) r ((c + g r) % 4)) ≡ s
turned_undone f g z s l =
    state_is (λ r c. at (state (λ i j. at s i ((j + f i) % 4))) r ((c + g r) % 4)) s l
    (λ r c hr hc.
    at_state (λ i j. at s i ((j + f i) % 4)) r ((c + g r) % 4) hr (omega arith)
    ∙ ap (at s r) (moved c (g r) (f r) ((c + g r) % 4) refl hc (z r hr)))

pub shift_rows_undone : (s : List ℕ) → Block s → inv_shift_rows (shift_rows s) ≡ s
shift_rows_undone s b = turned_undone (λ r. r) (λ r. 4 - r) (λ r h. omega arith) s b.len

pub inv_shift_rows_undone : (s : List ℕ) → Block s → shift_rows (inv_shift_rows s) ≡ s
inv_shift_rows_undone s b = turned_undone (λ r. 4 - r) (λ r. r) (λ r h. omega arith) s b.len

pub shift_rows_block : (s : List ℕ) → Block s → Block (shift_rows s)
shift_rows_block s b = state_block (λ r c. at s r ((c + r) % 4)) (λ r c hr hc. b.fits (r + 4 * ((c + r) % 4)))

pub inv_shift_rows_block : (s : List ℕ) → Block s → Block (inv_shift_rows s)
inv_shift_rows_block s b = state_block (λ r c. at s r ((c + (4 - r)) % 4)) (λ r c hr hc. b.fits (r + 4 * ((c + (4 - r)) % 4)))

-- down a column by m rows and then by n
down_down : (r m n k t : ℕ) → k ≡ (r + m) % 4 → t ≡ (m + n) % 4 → (k + n) % 4 ≡ (r + t) % 4
down_down r m n k t e f = omega arith

down_around : (r : ℕ) → r < 4 → (r + 0) % 4 ≡ r
down_around r h = omega arith

-- the rule S after the rule R, at each place
in_column_twice : (R S : Rule) (s : List ℕ) (r c : ℕ) → r < 4 → c < 4
    → in_column S (state (in_column R s)) r c ≡ after R S (at s r c) (at s ((r + 1) % 4) c) (at s ((r + 2) % 4) c) (at s ((r + 3) % 4) c)
in_column_twice R S s r c hr hc =
    let d : (m n t : ℕ) → t ≡ (m + n) % 4 → ((r + m) % 4 + n) % 4 ≡ (r + t) % 4 = λ m n t e. down_down r m n ((r + m) % 4) t refl e in
    simp (
      at_state (in_column R s) r c hr hc,
      at_state (in_column R s) ((r + 1) % 4) c (omega arith) hc,
      at_state (in_column R s) ((r + 2) % 4) c (omega arith) hc,
      at_state (in_column R s) ((r + 3) % 4) c (omega arith) hc,
      d 1 1 2 refl,
      d 1 2 3 refl,
      d 1 3 0 refl,
      d 2 1 3 refl,
      d 2 2 0 refl,
      d 2 3 1 refl,
      d 3 1 0 refl,
      d 3 2 1 refl,
      d 3 3 2 refl,
      down_around r hr,
    )

columns_undone : (R S : Rule) → ((a b c d : ℕ) → a < 256 → b < 256 → c < 256 → d < 256 → after R S a b c d ≡ a)
    → (s : List ℕ) → Block s → state (in_column S (state (in_column R s))) ≡ s
columns_undone R S e s b =
    state_is (in_column S (state (in_column R s))) s b.len
    (λ r c hr hc. in_column_twice R S s r c hr hc
    ∙ e (at s r c) (at s ((r + 1) % 4) c) (at s ((r + 2) % 4) c) (at s ((r + 3) % 4) c)
    (b.fits (r + 4 * c)) (b.fits ((r + 1) % 4 + 4 * c)) (b.fits ((r + 2) % 4 + 4 * c)) (b.fits ((r + 3) % 4 + 4 * c)))

columns_block : (R : Rule) → ((a b c d : ℕ) → a < 256 → b < 256 → c < 256 → d < 256 → R a b c d < 256)
    → (s : List ℕ) → Block s → Block (state (in_column R s))
columns_block R l s b =
    state_block (in_column R s)
    (λ r c hr hc. l (at s r c) (at s ((r + 1) % 4) c) (at s ((r + 2) % 4) c) (at s ((r + 3) % 4) c)
    (b.fits (r + 4 * c)) (b.fits ((r + 1) % 4 + 4 * c)) (b.fits ((r + 2) % 4 + 4 * c)) (b.fits ((r + 3) % 4 + 4 * c)))

pub mix_columns_undone : (s : List ℕ) → Block s → inv_mix_columns (mix_columns s) ≡ s
unfolding mix_columns inv_mix_columns
mix_columns_undone s b = columns_undone mix inv_mix mix_undone s b

pub inv_mix_columns_undone : (s : List ℕ) → Block s → mix_columns (inv_mix_columns s) ≡ s
unfolding mix_columns inv_mix_columns
inv_mix_columns_undone s b = columns_undone inv_mix mix inv_mix_undone s b

pub mix_columns_block : (s : List ℕ) → Block s → Block (mix_columns s)
unfolding mix_columns
mix_columns_block s b = columns_block mix mix_lt s b

pub inv_mix_columns_block : (s : List ℕ) → Block s → Block (inv_mix_columns s)
unfolding inv_mix_columns
inv_mix_columns_block s b = columns_block inv_mix inv_mix_lt s b
