-- The degree of a polynomial, the place of its highest one bit, and the places that leading zeros leave.
use Rattle.std.specs.Prelude.{ℕ, ◌+◌, ◌-◌, ◌^◌, ◌<◌, ◌≤◌}
use Rattle.std.specs.Int.Count.{count_leading_zeros}

-- d is the degree of v; zero has none
abbrev pub Degree : ℕ → ℕ → Type 0
Degree v d = (2 ^ d ≤ v) × (v < 2 ^ (d + 1))

-- how many of n places a number takes up, from its highest one bit down: one more than its degree, and none for zero
abbrev pub places : ℕ → ℕ → ℕ
places n v = n - count_leading_zeros n v
