-- The steps of a round of FIPS 197 on the state, and their inverses.
-- The state is a list of 16 bytes, four columns of four rows: the byte in row r and column c stands at r + 4 c.
use Rattle.std.specs.Prelude.{ℕ, ◌+◌, ◌-◌, ◌*◌, ◌/◌, ◌%◌, List, map, bit_xor, slice_index}
use Rattle.std.specs.List.{range_with_len}
use Rattle.aes_steps.specs.Field.{mul}
use Rattle.aes_steps.specs.Sbox.{s_box, inv_s_box}

-- s[r, c]
abbrev pub at : List ℕ → ℕ → ℕ → ℕ
at s r c = slice_index s (r + 4 * c)

-- the state with the byte f r c in row r and column c
abbrev pub state : (ℕ → ℕ → ℕ) → List ℕ
state f = map (λ i. f (i % 4) (i / 4)) (range_with_len 0 16)

-- SubBytes: s'[r, c] = S-box of s[r, c]
unfoldable pub sub_bytes : List ℕ → List ℕ
sub_bytes s = state (λ r c. s_box (at s r c))

unfoldable pub inv_sub_bytes : List ℕ → List ℕ
inv_sub_bytes s = state (λ r c. inv_s_box (at s r c))

-- ShiftRows: s'[r, c] = s[r, (c + r) mod 4]
abbrev pub shift_rows : List ℕ → List ℕ
shift_rows s = state (λ r c. at s r ((c + r) % 4))

-- InvShiftRows: s'[r, c] = s[r, (c - r) mod 4]
abbrev pub inv_shift_rows : List ℕ → List ℕ
inv_shift_rows s = state (λ r c. at s r ((c + (4 - r)) % 4))

-- k • a ⊕ l • b ⊕ m • c ⊕ n • d, where a factor has four bits
abbrev pub row : ℕ → ℕ → ℕ → ℕ → ℕ → ℕ → ℕ → ℕ → ℕ
row k l m n a b c d = bit_xor (bit_xor (bit_xor (mul (k % 16) a) (mul (l % 16) b)) (mul (m % 16) c)) (mul (n % 16) d)

-- {02} • a ⊕ {03} • b ⊕ c ⊕ d
unfoldable pub mix : ℕ → ℕ → ℕ → ℕ → ℕ
mix a b c d = bit_xor (bit_xor (bit_xor (mul 0x02 a) (mul 0x03 b)) c) d

-- {0e} • a ⊕ {0b} • b ⊕ {0d} • c ⊕ {09} • d
unfoldable pub inv_mix : ℕ → ℕ → ℕ → ℕ → ℕ
inv_mix a b c d = bit_xor (bit_xor (bit_xor (mul 0x0e a) (mul 0x0b b)) (mul 0x0d c)) (mul 0x09 d)

-- what a rule makes of row r in column c: it is given that row and the three below it, the first row coming after the last
abbrev pub in_column : (ℕ → ℕ → ℕ → ℕ → ℕ) → List ℕ → ℕ → ℕ → ℕ
in_column rule s r c = rule (at s r c) (at s ((r + 1) % 4) c) (at s ((r + 2) % 4) c) (at s ((r + 3) % 4) c)

-- MixColumns: s'[r, c] = {02} • s[r, c] ⊕ {03} • s[r + 1, c] ⊕ s[r + 2, c] ⊕ s[r + 3, c], rows modulo 4
unfoldable pub mix_columns : List ℕ → List ℕ
mix_columns s = state (in_column mix s)

-- InvMixColumns: s'[r, c] = {0e} • s[r, c] ⊕ {0b} • s[r + 1, c] ⊕ {0d} • s[r + 2, c] ⊕ {09} • s[r + 3, c], rows modulo 4
unfoldable pub inv_mix_columns : List ℕ → List ℕ
inv_mix_columns s = state (in_column inv_mix s)
