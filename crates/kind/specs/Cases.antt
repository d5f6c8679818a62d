-- Worked cases of the arithmetic, in both kinds. Blocks are given by their numbers.
use Rattle.std.specs.Prelude.{◌≡◌, ◌^◌, [], ◌∷◌, map, Some}
use Rattle.kind.specs.Laws.{Ops, bin, mask_coefficients}
use Rattle.kind.specs.Polynomials.{short_ops, wide_ops}

-- the mask coefficients of 3, 4, 5 and 7 blocks
pub record CoefficientCases {K : Type 0} (o : Ops K) : Type 0 where
  pub three : mask_coefficients o 3 ≡ map (bin o) (2 ∷ 4 ∷ 6 ∷ [])
  pub four : mask_coefficients o 4 ≡ map (bin o) (3 ∷ 6 ∷ 12 ∷ 9 ∷ [])
  pub five : mask_coefficients o 5 ≡ map (bin o) (3 ∷ 6 ∷ 12 ∷ 24 ∷ 17 ∷ [])
  pub seven : mask_coefficients o 7 ≡ map (bin o) (3 ∷ 6 ∷ 12 ∷ 9 ∷ 16 ∷ 32 ∷ 48 ∷ [])

pub record ArithmeticCases : Type 0 where
  -- x is the block 2
  pub short_x : short_ops.x ≡ bin short_ops 2
  pub wide_x : wide_ops.x ≡ bin wide_ops 2
  -- x times x^(n-1) is what the modulus leaves
  pub short_product : short_ops.mul short_ops.x (bin short_ops (2 ^ 63)) ≡ bin short_ops 0x1b
  pub wide_product : wide_ops.mul wide_ops.x (bin wide_ops (2 ^ 127)) ≡ bin wide_ops 0x87
  -- the inverse of x
  pub short_inverse : short_ops.inverse short_ops.x ≡ Some (bin short_ops 0x8000_0000_0000_000d)
  pub wide_inverse : wide_ops.inverse wide_ops.x ≡ Some (bin wide_ops 0x8000_0000_0000_0000_0000_0000_0000_0043)
  pub short_coefficients : CoefficientCases short_ops
  pub wide_coefficients : CoefficientCases wide_ops
