-- KeyExpansion of FIPS 197 for a key of four words. A word is four bytes, and w[i] is the bytes 4 i to 4 i + 3 of w.
use Rattle.std.specs.Prelude.{ℕ, zero, suc, ◌+◌, ◌-◌, ◌*◌, ◌/◌, ◌%◌, cond, List, [], ◌∷◌, ◌++◌, ◌==◌, bit_xor, slice_index}
use Rattle.aes_steps.specs.Sbox.{s_box}

-- w[i]
abbrev pub word_at : List ℕ → ℕ → List ℕ
word_at w i = slice_index w (4 * i) ∷ slice_index w (4 * i + 1) ∷ slice_index w (4 * i + 2) ∷ slice_index w (4 * i + 3) ∷ []

-- RotWord: [a0, a1, a2, a3] becomes [a1, a2, a3, a0]
abbrev pub rot_word : List ℕ → List ℕ
rot_word a = slice_index a 1 ∷ slice_index a 2 ∷ slice_index a 3 ∷ slice_index a 0 ∷ []

-- SubWord: each byte goes through the S-box
abbrev pub sub_word : List ℕ → List ℕ
sub_word a = s_box (slice_index a 0) ∷ s_box (slice_index a 1) ∷ s_box (slice_index a 2) ∷ s_box (slice_index a 3) ∷ []

-- a ⊕ b
abbrev pub xor_words : List ℕ → List ℕ → List ℕ
xor_words a b =
    bit_xor (slice_index a 0) (slice_index b 0) ∷ bit_xor (slice_index a 1) (slice_index b 1) ∷ bit_xor (slice_index a 2) (slice_index b 2) ∷ bit_xor (slice_index a 3) (slice_index b 3) ∷ []

-- the round constants x^0 to x^9, of Rcon[1] to Rcon[10]
abbrev pub round_constants : List ℕ
round_constants = 0x01 ∷ 0x02 ∷ 0x04 ∷ 0x08 ∷ 0x10 ∷ 0x20 ∷ 0x40 ∷ 0x80 ∷ 0x1b ∷ 0x36 ∷ []

-- Rcon[j]: [x^(j - 1), 0, 0, 0]
abbrev pub rcon : ℕ → List ℕ
rcon j = slice_index round_constants (j - 1) ∷ 0 ∷ 0 ∷ 0 ∷ []

-- temp at i: SubWord(RotWord(w[i - 1])) ⊕ Rcon[i / 4] where 4 divides i, and w[i - 1] elsewhere
unfoldable pub temp : List ℕ → ℕ → List ℕ
temp w i = cond (i % 4 == 0) (xor_words (sub_word (rot_word (word_at w (i - 1)))) (rcon (i / 4))) (word_at w (i - 1))

-- w[i] = w[i - 4] ⊕ temp
unfoldable pub next_word : List ℕ → ℕ → List ℕ
next_word w i = xor_words (word_at w (i - 4)) (temp w i)

-- the four words of the key, and the n words after them
unfoldable pub expanded : List ℕ → ℕ → List ℕ
expanded key zero = key
expanded key (suc n) = expanded key n ++ next_word (expanded key n) (4 + n)

-- KeyExpansion: w[0] to w[43], the 176 bytes of eleven round keys
unfoldable pub key_expansion : List ℕ → List ℕ
key_expansion key = expanded key 40
