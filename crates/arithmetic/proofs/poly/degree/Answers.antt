-- What is left to show of `degree`.
use Rattle.std.proofs.Common.{◌≡◌, ℕ, ◌-◌, ◌^◌, ◌<◌, ◌≤◌, Some, None, Option, SomeIff, refl, arith, MatchOption}
use lib.Count.{count_leading_zeros}
use Rattle.field.specs.Degree.{Degree}
use Rattle.field.proofs.Degree.{no_places, zeros_degree}
use Rattle.arithmetic.proofs.poly.degree.Goals as goal

by_places : (n v k : ℕ) (r : Option ℕ) → v < 2 ^ n → k ≡ n - count_leading_zeros n v → SomeIff r (1 ≤ k) (k - 1) → MatchOption r (v ≡ 0) (Degree v)
by_places n v k None h e m = no_places n v (count_leading_zeros n v) h refl (omega arith)
by_places n v k (Some d) h e m = zeros_degree n v (count_leading_zeros n v) d h refl (omega (arith, m.0, m.1))

pub returns : goal.returns
returns g c =
    let p = g.P.Poly in
    by_places p.width (p.value c.args.a) (c.bits.result - c.zeros.result) c.checked_sub.result (p.numbers.below c.args.a) (omega arith) c.checked_sub.ensures
