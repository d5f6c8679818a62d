-- The field of FIPS 197: a byte's bit i is the coefficient of x^i, and products are reduced by x^8 + x^4 + x^3 + x + 1.
-- The sum is bit_xor.
use Rattle.std.specs.Prelude.{ℕ}
use Rattle.field.specs.Field as field

-- x • b
abbrev pub xtime : ℕ → ℕ
xtime b = field.times_x 8 0x1b b

-- a • b
abbrev pub mul : ℕ → ℕ → ℕ
mul a b = field.mul 8 0x1b a b

-- the multiplicative inverse of b; zero, which has none, is mapped to itself
abbrev pub inverse : ℕ → ℕ
inverse b = field.inverse 8 0x1b b
