-- What holds of the product modulo x^n + f: the laws of a ring for every modulus, those of a field for an irreducible one,
-- and those of the mask coefficients.
use Rattle.std.specs.Prelude.{◌≡◌, ℕ, ◌^◌, ◌<◌, ◌≤◌, ◌≢◌, length, bit_xor, slice_index}
use Rattle.field.specs.Degree.{Degree}
use Rattle.field.specs.Field.{times_x, mul, inverse}
use Rattle.field.specs.Mask.{coefficients, total, Apart, written, most_blocks}

-- the numbers below 2^n are a commutative ring with a one, in which each is its own negative; x is the number 2
pub record RingLaws (n f : ℕ) : Type 0 where
  pub add_lt : (a b : ℕ) → a < 2 ^ n → b < 2 ^ n → bit_xor a b < 2 ^ n
  pub add_comm : (a b : ℕ) → bit_xor a b ≡ bit_xor b a
  pub add_assoc : (a b c : ℕ) → bit_xor (bit_xor a b) c ≡ bit_xor a (bit_xor b c)
  pub add_zero : (a : ℕ) → bit_xor a 0 ≡ a
  pub add_self : (a : ℕ) → bit_xor a a ≡ 0
  pub mul_lt : (a b : ℕ) → b < 2 ^ n → mul n f a b < 2 ^ n
  pub mul_comm : (a b : ℕ) → a < 2 ^ n → b < 2 ^ n → mul n f a b ≡ mul n f b a
  pub mul_assoc : (a b c : ℕ) → a < 2 ^ n → b < 2 ^ n → c < 2 ^ n → mul n f (mul n f a b) c ≡ mul n f a (mul n f b c)
  pub mul_one : (a : ℕ) → a < 2 ^ n → mul n f a 1 ≡ a
  pub distrib : (a b c : ℕ) → mul n f a (bit_xor b c) ≡ bit_xor (mul n f a b) (mul n f a c)
  pub mul_x : (a : ℕ) → a < 2 ^ n → mul n f 2 a ≡ times_x n f a
  -- zero has no inverse, and no element has two
  pub no_inverse : (b : ℕ) → mul n f 0 b ≢ 1
  pub one_inverse : (a b c : ℕ) → a < 2 ^ n → b < 2 ^ n → c < 2 ^ n → mul n f a b ≡ 1 → mul n f a c ≡ 1 → b ≡ c

-- every element but zero has an inverse, so no product of two such elements is zero: x^n + f is irreducible
pub record FieldLaws (n f : ℕ) : Type 0 where
  pub inverses : (a : ℕ) → a < 2 ^ n → a ≢ 0 → (inverse n f a < 2 ^ n) × (mul n f a (inverse n f a) ≡ 1)
  pub nonzero : (a b : ℕ) → a < 2 ^ n → b < 2 ^ n → a ≢ 0 → b ≢ 0 → mul n f a b ≢ 0

-- the mask coefficients for m blocks, for each m from 3 to the most
pub record MaskLaws (n f : ℕ) : Type 0 where
  -- they add to zero, and no two are equal
  pub sum : (m : ℕ) → total bit_xor 0 (coefficients bit_xor (mul n f 2) 1 m) ≡ 0
  pub apart : (m : ℕ) → 3 ≤ m → m ≤ most_blocks → Apart (coefficients bit_xor (mul n f 2) 1 m)
  -- there are m, none of the written polynomials is zero or has a degree of n or more, and so none is reduced
  pub count : (m : ℕ) → 3 ≤ m → length (written m) ≡ m
  pub nonzero : (m i : ℕ) → 3 ≤ m → m ≤ most_blocks → i < m → slice_index (written m) i ≢ 0
  pub degrees : (m i d : ℕ) → 3 ≤ m → m ≤ most_blocks → Degree (slice_index (written m) i) d → d < n
  pub unreduced : (m : ℕ) → 3 ≤ m → m ≤ most_blocks → coefficients bit_xor (mul n f 2) 1 m ≡ written m
