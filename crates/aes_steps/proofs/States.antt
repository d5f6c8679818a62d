-- States as tables of rows and columns, and what is a state of bytes.
use Rattle.std.proofs.Common.{◌≡◌, ℕ, ◌+◌, ◌*◌, ◌/◌, ◌%◌, ◌<◌, List, length, get_or, sym, ap, ◌∙◌, ap₂, inl, inr, arith}
use Rattle.std.proofs.lemmas.List.FromFn.{get_or-map-range_with_len, length-map-range_with_len, fill_by_all}
use Rattle.std.proofs.lemmas.List.{get_or_past}
use Rattle.std.proofs.lemmas.Bool.{cases_lt}
use Rattle.aes_steps.specs.Steps.{at, state}

-- a list of 16 bytes
pub record Block (s : List ℕ) : Type 0 where
  pub len : length s ≡ 16
  pub fits : (i : ℕ) → get_or s i 0 < 256

pub place : (i : ℕ) → i % 4 + 4 * (i / 4) ≡ i
place i = omega arith

pub at_state : (f : ℕ → ℕ → ℕ) (r c : ℕ) → r < 4 → c < 4 → at (state f) r c ≡ f r c
at_state f r c hr hc =
    let e : (r + 4 * c) % 4 ≡ r = omega arith in
    let g : (r + 4 * c) / 4 ≡ c = omega arith in
    get_or-map-range_with_len (λ i. f (i % 4) (i / 4)) 0 16 (r + 4 * c) (r + 4 * c) 0 (omega arith) (omega arith) ∙ ap₂ f e g

pub state_is : (f : ℕ → ℕ → ℕ) (s : List ℕ) → length s ≡ 16 → ((r c : ℕ) → r < 4 → c < 4 → f r c ≡ at s r c) → state f ≡ s
state_is f s l e =
    sym (fill_by_all (λ i. f (i % 4) (i / 4)) s 16 0 l
    (λ k h. sym (e (k % 4) (k / 4) (omega arith) (omega arith) ∙ ap (λ n. get_or s n 0) (place k))))

-- a list whose bytes are those of s under f is the state with f of each byte of s
pub each_byte : (f : ℕ → ℕ) (s t : List ℕ) → length t ≡ 16 → ((i : ℕ) → i < 16 → get_or t i 0 ≡ f (get_or s i 0)) → t ≡ state (λ r c. f (at s r c))
each_byte f s t l e = fill_by_all (λ i. f (at s (i % 4) (i / 4))) t 16 0 l (λ i h. e i h ∙ ap (λ n. f (get_or s n 0)) (sym (place i)))

pub state_len : (f : ℕ → ℕ → ℕ) → length (state f) ≡ 16
state_len f = length-map-range_with_len (λ i. f (i % 4) (i / 4)) 0 16

-- a list of 16 bytes has bytes wherever it is read
pub block_of : (s : List ℕ) → length s ≡ 16 → ((i : ℕ) → i < 16 → get_or s i 0 < 256) → Block s
block_of s l h =
    record {
      len = l;
      fits = λ i. elim (cases_lt i 16) [ inl p ↦ h i p | inr q ↦ (let e = get_or_past s i 0 (omega arith) in omega arith) ];
    }

pub state_block : (f : ℕ → ℕ → ℕ) → ((r c : ℕ) → r < 4 → c < 4 → f r c < 256) → Block (state f)
state_block f h =
    block_of (state f) (state_len f)
    (λ i p.
    let e = get_or-map-range_with_len (λ k. f (k % 4) (k / 4)) 0 16 i i 0 p (omega arith) in
    let g = h (i % 4) (i / 4) (omega arith) (omega arith) in
    omega arith)
