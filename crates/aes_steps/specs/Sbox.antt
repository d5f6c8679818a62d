-- The S-box of FIPS 197 and its inverse, by their rules.
use Rattle.std.specs.Prelude.{◌≡◌, ℕ, ◌+◌, ◌*◌, ◌/◌, ◌%◌, ◌^◌, ◌<◌, ◌⊎◌}
use Rattle.aes_steps.specs.Field.{mul, inverse}

-- bit i of b, counted from the lowest
abbrev pub bit : ℕ → ℕ → ℕ
bit b i = b / 2 ^ i % 2

-- the byte with the bits f 0 to f 7
abbrev pub of_bits : (ℕ → ℕ) → ℕ
of_bits f = f 0 + 2 * f 1 + 4 * f 2 + 8 * f 3 + 16 * f 4 + 32 * f 5 + 64 * f 6 + 128 * f 7

-- b'_i = b_i ⊕ b_(i+4) ⊕ b_(i+5) ⊕ b_(i+6) ⊕ b_(i+7) ⊕ c_i, indices modulo 8, with c = {63}
unfoldable pub affine : ℕ → ℕ
affine b =
    of_bits (λ i. (bit b i + bit b ((i + 4) % 8) + bit b ((i + 5) % 8) + bit b ((i + 6) % 8) + bit b ((i + 7) % 8) + bit 0x63 i) % 2)

-- b'_i = b_(i+2) ⊕ b_(i+5) ⊕ b_(i+7) ⊕ d_i, indices modulo 8, with d = {05}
unfoldable pub inv_affine : ℕ → ℕ
inv_affine b = of_bits (λ i. (bit b ((i + 2) % 8) + bit b ((i + 5) % 8) + bit b ((i + 7) % 8) + bit 0x05 i) % 2)

-- the S-box: the inverse, then the affine map
unfoldable pub s_box : ℕ → ℕ
s_box b = affine (inverse b)

-- the inverse S-box: the inverse of the affine map, then the inverse
unfoldable pub inv_s_box : ℕ → ℕ
inv_s_box b = inverse (inv_affine b)

-- y is the inverse of x, where zero counts as the inverse of zero
abbrev pub Inverse : ℕ → ℕ → Type 0
Inverse x y = (mul x y ≡ 1) ⊎ ((x ≡ 0) × (y ≡ 0))

-- s stands for x in the S-box: it is the affine image of x's inverse
abbrev pub Substitutes : ℕ → ℕ → Type 0
Substitutes x s = (y : ℕ) × (y < 256) × Inverse x y × (s ≡ affine y)
