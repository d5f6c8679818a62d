-- Polynomials over the field of two elements as numbers: bit i of the number is the coefficient of x^i, and the sum is `bit_xor`.
-- The modulus is x^n + f, with f, its low terms, below 2^n. The elements are the numbers below 2^n.
use Rattle.std.specs.Prelude.{ℕ, zero, suc, ◌-◌, ◌*◌, ◌/◌, ◌%◌, ◌^◌, List, [], ◌∷◌, bit_xor}

-- x times a: the shift, and where the coefficient of x^(n-1) falls out, f for x^n
unfoldable pub times_x : ℕ → ℕ → ℕ → ℕ
times_x n f a = bit_xor (a * 2 % 2 ^ n) (a / 2 ^ (n - 1) % 2 * f)

-- the sum of those elements of a list that the bits of v pick, the lowest bit the first element
unfoldable pub combine : List ℕ → ℕ → ℕ
combine [] v = 0
combine (t ∷ ts) v = bit_xor (v % 2 * t) (combine ts (v / 2))

-- a, x a, x^2 a, .. : k of them
unfoldable pub powers : ℕ → ℕ → ℕ → ℕ → List ℕ
powers n f zero a = []
powers n f (suc k) a = a ∷ powers n f k (times_x n f a)

-- the product: the sum of x^i b over the bits i of a
unfoldable pub mul : ℕ → ℕ → ℕ → ℕ → ℕ
mul n f a b = combine (powers n f n b) a

unfoldable pub square : ℕ → ℕ → ℕ → ℕ
square n f a = mul n f a a

-- a^(2^k - 1)
unfoldable pub norm : ℕ → ℕ → ℕ → ℕ → ℕ
norm n f zero a = 1
norm n f (suc k) a = mul n f a (square n f (norm n f k a))

-- a^(2^n - 2), which is the inverse of a where x^n + f is irreducible
unfoldable pub inverse : ℕ → ℕ → ℕ → ℕ
inverse n f a = square n f (norm n f (n - 1) a)

-- the low terms of the two moduli: x^64 + x^4 + x^3 + x + 1 and x^128 + x^7 + x^2 + x + 1
abbrev pub short_terms : ℕ
short_terms = 0x1b

abbrev pub wide_terms : ℕ
wide_terms = 0x87
