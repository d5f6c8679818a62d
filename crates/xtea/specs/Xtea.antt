-- XTEA on 8 bytes, by its published rule: 32 cycles on two words of 32 bits, with sums modulo 2^32.
use Rattle.std.specs.Prelude.{ℕ, ◌+◌, ◌-◌, ◌*◌, ◌/◌, ◌%◌, ◌^◌, List, [], ◌∷◌, ◌++◌, bit_xor, slice_index}
use Rattle.xtea.specs.Repeat.{repeat}
use Rattle.xtea.specs.declared.State.{State}

abbrev pub plus : ℕ → ℕ → ℕ
plus a b = (a + b) % 2 ^ 32

abbrev pub minus : ℕ → ℕ → ℕ
minus a b = (a + (2 ^ 32 - b)) % 2 ^ 32

-- (((v << 4) ⊕ (v >> 5)) + v) ⊕ (s + k)
abbrev pub mix : ℕ → ℕ → ℕ → ℕ
mix v s k = bit_xor (plus (bit_xor ((v * 2 ^ 4) % 2 ^ 32) (v / 2 ^ 5)) v) (plus s k)

-- what s grows by in each cycle
abbrev pub delta : ℕ
delta = 0x9E3779B9

-- the key word for v0: number s mod 4
abbrev pub first_key : List ℕ → ℕ → ℕ
first_key k s = slice_index k (s % 4)

-- the key word for v1: number (s / 2048) mod 4
abbrev pub second_key : List ℕ → ℕ → ℕ
second_key k s = slice_index k (s / 2048 % 4)

-- the three steps of a cycle on v0, v1 and s
abbrev pub grow_v0 : List ℕ → State → State
grow_v0 k w = record { v0 = plus w.v0 (mix w.v1 w.s (first_key k w.s)); v1 = w.v1; s = w.s }

abbrev pub grow_s : State → State
grow_s w = record { v0 = w.v0; v1 = w.v1; s = plus w.s delta }

abbrev pub grow_v1 : List ℕ → State → State
grow_v1 k w = record { v0 = w.v0; v1 = plus w.v1 (mix w.v0 w.s (second_key k w.s)); s = w.s }

abbrev pub cycle : List ℕ → State → State
cycle k w = grow_v1 k (grow_s (grow_v0 k w))

-- the same steps backwards
abbrev pub shrink_v0 : List ℕ → State → State
shrink_v0 k w = record { v0 = minus w.v0 (mix w.v1 w.s (first_key k w.s)); v1 = w.v1; s = w.s }

abbrev pub shrink_s : State → State
shrink_s w = record { v0 = w.v0; v1 = w.v1; s = minus w.s delta }

abbrev pub shrink_v1 : List ℕ → State → State
shrink_v1 k w = record { v0 = w.v0; v1 = minus w.v1 (mix w.v0 w.s (second_key k w.s)); s = w.s }

abbrev pub inv_cycle : List ℕ → State → State
inv_cycle k w = shrink_v0 k (shrink_s (shrink_v1 k w))

-- the big-endian word of the four bytes from place i on
abbrev pub word_at : List ℕ → ℕ → ℕ
word_at bs i = slice_index bs i * 16777216 + slice_index bs (i + 1) * 65536 + slice_index bs (i + 2) * 256 + slice_index bs (i + 3)

-- the four bytes of a word, the highest first
abbrev pub word_bytes : ℕ → List ℕ
word_bytes v = (v / 16777216 % 256) ∷ (v / 65536 % 256) ∷ (v / 256 % 256) ∷ (v % 256) ∷ []

-- the four words of a key of 16 bytes
abbrev pub key_words : List ℕ → List ℕ
key_words key = word_at key 0 ∷ word_at key 4 ∷ word_at key 8 ∷ word_at key 12 ∷ []

-- the words of a block of 8 bytes, and s
abbrev pub start : ℕ → List ℕ → State
start s bs = record { v0 = word_at bs 0; v1 = word_at bs 4; s = s }

-- the 8 bytes of v0 and v1
abbrev pub bytes_of : State → List ℕ
bytes_of w = word_bytes w.v0 ++ word_bytes w.v1

-- what s is after 32 cycles from 0
abbrev pub last : ℕ
last = 0xC6EF3720

-- 32 cycles from s = 0
unfoldable pub encipher : List ℕ → List ℕ → List ℕ
encipher k bs = bytes_of (repeat (cycle k) 32 (start 0 bs))

-- 32 cycles backwards
unfoldable pub decipher : List ℕ → List ℕ → List ℕ
decipher k bs = bytes_of (repeat (inv_cycle k) 32 (start last bs))
