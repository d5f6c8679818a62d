-- Strings of bytes, the first byte the highest, and their numbers.
use Rattle.std.specs.Prelude.{◌≡◌, ℕ, zero, suc, ◌+◌, ◌*◌, ◌/◌, ◌%◌, ◌^◌, ◌<◌, ◌⊎◌, List, [], ◌∷◌, length, bit_xor}

-- the big-endian number of a string of bytes
unfoldable pub number : List ℕ → ℕ
number [] = 0
number (b ∷ bs) = b * 2 ^ (8 * length bs) + number bs

-- the k bytes of a number, the highest first
unfoldable pub bytes : ℕ → ℕ → List ℕ
bytes zero v = []
bytes (suc k) v = (v / 2 ^ (8 * k) % 256) ∷ bytes k v

-- each is a byte
abbrev pub Bytes : List ℕ → Type 0
Bytes [] = Unit {0}
Bytes (b ∷ bs) = (b < 256) × Bytes bs

-- the sum of two strings of one length: that of their bits, byte by byte
unfoldable pub xors : List ℕ → List ℕ → List ℕ
xors [] bs = []
xors (a ∷ es) [] = []
xors (a ∷ es) (b ∷ bs) = bit_xor a b ∷ xors es bs

-- the sizes that a block can have, in bytes
abbrev pub Size : ℕ → Type 0
Size n = (n ≡ 8) ⊎ ((n ≡ 16) ⊎ ((n ≡ 32) ⊎ ((n ≡ 64) ⊎ (n ≡ 128))))

-- numbers below 2^(8 k) and strings of k bytes correspond one to one, and the bytes of a sum are the sum of the bytes
pub record ByteLaws : Type 0 where
  pub number_lt : (l : List ℕ) → Bytes l → number l < 2 ^ (8 * length l)
  pub bytes_length : (k v : ℕ) → length (bytes k v) ≡ k
  pub bytes_are : (k v : ℕ) → Bytes (bytes k v)
  pub number_bytes : (k v : ℕ) → v < 2 ^ (8 * k) → number (bytes k v) ≡ v
  pub bytes_number : (l : List ℕ) → Bytes l → bytes (length l) (number l) ≡ l
  pub number_sum : (l m : List ℕ) → length l ≡ length m → Bytes l → Bytes m → number (xors l m) ≡ bit_xor (number l) (number m)
