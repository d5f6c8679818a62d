-- x^8 times an element by shifts: what falls out comes back times the modulus' low terms 1, x, x^i and x^j. Linear for every width and every i and j;
-- the two kinds by computing both maps at the powers of x.
use Rattle.std.proofs.Common.{◌≡◌, ℕ, ◌-◌, ◌*◌, ◌/◌, ◌%◌, ◌^◌, ◌<◌, refl, lit<}
use lib.Bits.{bit_xor, xor_shr}
use Rattle.field.specs.Field.{times_x, powers}
use Rattle.field.specs.Window.{raise}
use Rattle.field.proofs.Linear.{Linear}
use Rattle.field.proofs.Window.{cut_linear, sum_linear, then_linear, agree, raise_linear}

abbrev pub folded : ℕ → ℕ → ℕ → ℕ → ℕ
folded n i j h = bit_xor (bit_xor (bit_xor h (h * 2 ^ 1 % 2 ^ n)) (h * 2 ^ i % 2 ^ n)) (h * 2 ^ j % 2 ^ n)

abbrev pub by_shifts : ℕ → ℕ → ℕ → ℕ → ℕ
by_shifts n i j a = bit_xor (a * 2 ^ 8 % 2 ^ n) (folded n i j (a / 2 ^ (n - 8)))

folded_linear : (n i j : ℕ) → Linear (folded n i j)
folded_linear n i j =
    sum_linear (λ h. bit_xor (bit_xor h (h * 2 ^ 1 % 2 ^ n)) (h * 2 ^ i % 2 ^ n)) (λ h. h * 2 ^ j % 2 ^ n)
    (sum_linear (λ h. bit_xor h (h * 2 ^ 1 % 2 ^ n)) (λ h. h * 2 ^ i % 2 ^ n)
    (sum_linear (λ h. h) (λ h. h * 2 ^ 1 % 2 ^ n) (λ u v. refl) (cut_linear 1 n)) (cut_linear i n))
    (cut_linear j n)

by_shifts_linear : (n i j : ℕ) → Linear (by_shifts n i j)
by_shifts_linear n i j =
    sum_linear (λ a. a * 2 ^ 8 % 2 ^ n) (λ a. folded n i j (a / 2 ^ (n - 8))) (cut_linear 8 n)
    (then_linear (folded n i j) (λ a. a / 2 ^ (n - 8)) (folded_linear n i j) (λ u v. xor_shr u v (n - 8)))

pub raised64 : (a : ℕ) → a < 2 ^ 64 → by_shifts 64 3 4 a ≡ raise 64 0x1b 8 a
unfolding raise times_x powers
raised64 = agree 64 0x1b (lit< tt) (by_shifts 64 3 4) (raise 64 0x1b 8) (by_shifts_linear 64 3 4) (raise_linear 64 0x1b (lit< tt) 8) refl

pub raised128 : (a : ℕ) → a < 2 ^ 128 → by_shifts 128 2 7 a ≡ raise 128 0x87 8 a
unfolding raise times_x powers
raised128 = agree 128 0x87 (lit< tt) (by_shifts 128 2 7) (raise 128 0x87 8) (by_shifts_linear 128 2 7) (raise_linear 128 0x87 (lit< tt) 8) refl
