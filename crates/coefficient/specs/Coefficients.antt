-- A mask coefficient by its place, and what holds of the coefficients in every kind.
use Rattle.std.specs.Prelude.{◌≡◌, ℕ, ◌<◌, ◌≤◌, cond, length, Some, None, Option, nat_le, nat_lt, slice_index, slice_index_or}
use Rattle.field.specs.Degree.{Degree}
use Rattle.field.specs.Mask.{Apart, total, written}
use Rattle.kind.specs.Laws.{Ops, mask_coefficients, most_blocks}

-- there is a coefficient at place i, counted from 0, of m blocks
abbrev pub IsPlace : ℕ → ℕ → Type 0
IsPlace m i = (3 ≤ m) × (m ≤ most_blocks) × (i < m)

-- the coefficient at place i, counted from 0, of m blocks; none where there is no such place or no such count
unfoldable pub mask_coefficient : {K : Type 0} → Ops K → ℕ → ℕ → Option K
mask_coefficient o m i =
    cond (nat_le 3 m) (cond (nat_le m most_blocks) (cond (nat_lt i m) (Some (slice_index_or (mask_coefficients o m) i o.zero)) None) None) None

-- for each count there are as many coefficients, they add to zero, and up to the most blocks no two are equal
pub record MaskLaws {K : Type 0} (o : Ops K) (most : ℕ) : Type 0 where
  pub count : (m : ℕ) → 3 ≤ m → length (mask_coefficients o m) ≡ m
  pub sum : (m : ℕ) → 3 ≤ m → total o.add o.zero (mask_coefficients o m) ≡ o.zero
  pub apart : (m : ℕ) → 3 ≤ m → m ≤ most → Apart (mask_coefficients o m)

-- the degree of a written coefficient, which is below n; none where there is no such coefficient
abbrev pub CoefficientDegree : ℕ → ℕ → ℕ → Option ℕ → Type 0
CoefficientDegree n m i None = IsPlace m i → ⊥
CoefficientDegree n m i (Some d) = IsPlace m i × Degree (slice_index (written m) i) d × (d < n)
