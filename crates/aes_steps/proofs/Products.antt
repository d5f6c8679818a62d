-- Products by constants of four bits, as sums of doublings.
use Rattle.std.proofs.Common.{◌≡◌, ℕ, ◌*◌, ◌/◌, ◌%◌, one-mul, zero-mul, arith}
use lib.Bits.{bit_xor, xor_zero_r, xor_assoc}
use Rattle.field.specs.Field.{combine, powers}
use Rattle.field.specs.Field.{mul as product}
use Rattle.aes_steps.specs.Field.{xtime, mul}

pub mul_one : (b : ℕ) → mul 0x01 b ≡ b
unfolding product combine powers
mul_one b = simp (one-mul, zero-mul, xor_zero_r)

pub mul_four_bits : (a b : ℕ)
    → bit_xor (bit_xor (bit_xor (a % 2 * b) (a / 2 % 2 * xtime b)) (a / 4 % 2 * xtime (xtime b))) (a / 8 % 2 * xtime (xtime (xtime b))) ≡ mul (a % 16) b
unfolding product combine powers
mul_four_bits a b =
    let e1 : a % 16 % 2 ≡ a % 2 = omega arith in
    let e2 : a % 16 / 2 % 2 ≡ a / 2 % 2 = omega arith in
    let e4 : a % 16 / 2 / 2 % 2 ≡ a / 4 % 2 = omega arith in
    let e8 : a % 16 / 2 / 2 / 2 % 2 ≡ a / 8 % 2 = omega arith in
    let e16 : a % 16 / 2 / 2 / 2 / 2 ≡ 0 = omega arith in
    simp (e1, e2, e4, e8, e16, zero-mul, xor_zero_r, xor_assoc)
