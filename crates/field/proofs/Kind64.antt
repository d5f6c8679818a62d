-- The field at n = 64: the two facts that are computed, and what follows. The table comes from solving the linear equations v^2 + v.
use Rattle.std.proofs.Common.{◌≡◌, ℕ, ◌%◌, ◌^◌, ◌<◌, ◌≢◌, List, [], ◌∷◌, map, refl, lit<}
use lib.Bits.{bit_xor}
use Rattle.field.specs.Field.{times_x, combine, powers, mul, square, inverse}
use Rattle.field.proofs.Inverse.{squares, solve}
use Rattle.field.proofs.Inverse as inv

back : squares 64 0x1b 64 2 ≡ 2
unfolding times_x combine powers mul square squares
back = refl

table : List ℕ
table =
    0x19c9369f278adc02 ∷
    0x84b2b22ab2383ee4 ∷
    0x84b2b22ab2383ee6 ∷
    0x9d7b84b495b3e3f6 ∷
    0x84b2b22ab2383ee2 ∷
    0x37c470b49213f790 ∷
    0x9d7b84b495b3e3fe ∷
    0x1000a0105137c ∷
    0x84b2b22ab2383ef2 ∷
    0x368e964a8edce1fc ∷
    0x37c470b49213f7b0 ∷
    0x19c9368e278fdf4c ∷
    0x9d7b84b495b3e3be ∷
    0x2e4da23cbc7d4570 ∷
    0x1000a010513fc ∷
    0x84f35772bac24232 ∷
    0x84b2b22ab2383ff2 ∷
    0x37c570ba9314e4fc ∷
    0x368e964a8edce3fc ∷
    0xb377c390213cdb0e ∷
    0x37c470b49213f3b0 ∷
    0x85ed5a3aa99c24f2 ∷
    0x19c9368e278fd74c ∷
    0xaabff0000780000e ∷
    0x9d7b84b495b3f3be ∷
    0x84b6b3dab03038f2 ∷
    0x2e4da23cbc7d6570 ∷
    0x511ea03494ffc ∷
    0x1000a010553fc ∷
    0xae0c0220343c6c0e ∷
    0x84f35772bac2c232 ∷
    0x800000008000000e ∷
    0x84b2b22ab2393ff2 ∷
    0xb376c29c202bc97e ∷
    0x37c570ba9316e4fc ∷
    0x9c3062488879e6ce ∷
    0x368e964a8ed8e3fc ∷
    0x41e42c08e47e70 ∷
    0xb377c3902134db0e ∷
    0x85b9b108a60f56ce ∷
    0x37c470b49203f3b0 ∷
    0x19dd3b6e21f3cb4c ∷
    0x85ed5a3aa9bc24f2 ∷
    0x198ddf682c428ac0 ∷
    0x19c9368e27cfd74c ∷
    0x4b7c68431ca84b0 ∷
    0xaabff0000700000e ∷
    0x8040655489ffefbe ∷
    0x9d7b84b494b3f3be ∷
    0x18c1354e32bfa74c ∷
    0x84b6b3dab23038f2 ∷
    0xaaf613cc0f74627e ∷
    0x2e4da23cb87d6570 ∷
    0x3248b3d6b3342a8c ∷
    0x511ea0b494ffc ∷
    0xb60813c00e70700e ∷
    0x1000a110553fc ∷
    0x1e0d022a05393ffc ∷
    0xae0c0220143c6c0e ∷
    0xe0c0220143c6c00 ∷
    0x84f35772fac2c232 ∷
    0x0 ∷
    0x800000000000000e ∷
    0xc041e55948fbfdce ∷ []

solves : map (λ v. solve 64 0x1b table (v % 2 ^ 64)) (powers 64 0x1b 64 1) ≡ map (λ v. bit_xor v (v % 2)) (powers 64 0x1b 64 1)
unfolding times_x combine powers mul square solve table
solves = refl

pub has_inverse : (a : ℕ) → a < 2 ^ 64 → a ≢ 0 → mul 64 0x1b a (inverse 64 0x1b a) ≡ 1
has_inverse = inv.has_inverse 64 0x1b (lit< tt) (lit< tt) back table solves

pub product_nonzero : (a b : ℕ) → a < 2 ^ 64 → b < 2 ^ 64 → a ≢ 0 → b ≢ 0 → mul 64 0x1b a b ≢ 0
product_nonzero = inv.product_nonzero 64 0x1b (lit< tt) (lit< tt) back table solves

pub inverses : (a : ℕ) → a < 2 ^ 64 → a ≢ 0 → (inverse 64 0x1b a < 2 ^ 64) × (mul 64 0x1b a (inverse 64 0x1b a) ≡ 1)
inverses a h ne = (inv.inverse_lt 64 0x1b (lit< tt) (lit< tt) back a h, has_inverse a h ne)
