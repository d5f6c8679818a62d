-- Doubling by a shift and the coefficient that falls out, over the width.
use Rattle.std.proofs.Common.{◌≡◌, ℕ, suc, ◌-◌, ◌*◌, ◌/◌, ◌%◌, ◌^◌, ◌<◌, sym, ap, ◌∙◌, subst, mod-eq_of_lt, mul_comm, div-lt_iff_lt-mul, one-mul, pow-suc, arith, pow_pos}
use lib.Bits.{bit_xor}
use Rattle.field.specs.Field.{times_x}

pub carried : (n f a : ℕ) → a / 2 ^ (n - 1) ≡ 1 → bit_xor (a * 2 % 2 ^ n) f ≡ times_x n f a
unfolding times_x
carried n f a h = sym (ap (λ t. bit_xor (a * 2 % 2 ^ n) (t % 2 * f)) h ∙ ap (bit_xor (a * 2 % 2 ^ n)) (one-mul f))

pub top_lt : (n a : ℕ) → 0 < n → a < 2 ^ n → a / 2 ^ (n - 1) < 2
top_lt n a p h =
    let e : n ≡ suc (n - 1) = omega arith in
    (div-lt_iff_lt-mul (pow_pos (n - 1))).1 (subst (λ x. a < x) (ap (λ k. 2 ^ k) e ∙ pow-suc 2 (n - 1) ∙ mul_comm (2 ^ (n - 1)) 2) h)

-- with no branch: the bit that falls out times f
pub branchless : (n f a : ℕ) → 0 < n → a < 2 ^ n → bit_xor (a * 2 % 2 ^ n) (a / 2 ^ (n - 1) * f) ≡ times_x n f a
unfolding times_x
branchless n f a p h = ap (λ t. bit_xor (a * 2 % 2 ^ n) (t * f)) (sym (mod-eq_of_lt (top_lt n a p h)))
