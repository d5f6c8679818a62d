-- What the loop of `remainder` keeps, and what falls at each turn.
use Rattle.std.proofs.Common.{◌≡◌, ℕ, ◌^◌, ◌<◌}
use Rattle.field.specs.Degree.{places}
use Rattle.field.specs.Field.{mul}
use Rattle.arithmetic.specs.Descent.{Division}
use Rattle.arithmetic.proofs.poly.remainder.Given as goal

abbrev pub invariant-loop-by : goal.invariant-loop-by
invariant-loop-by g l =
    let p = g.P.Poly in
    Division p.width (p.value l.rest.element) (p.value l.rest.factor) (p.value l.small.element) (p.value l.small.factor)
    × ((a : ℕ) → a < 2 ^ p.width → p.value l.initial.rest.element ≡ mul p.width p.modulus (p.value l.initial.rest.factor) a
    → p.value l.small.element ≡ mul p.width p.modulus (p.value l.small.factor) a → p.value l.rest.element ≡ mul p.width p.modulus (p.value l.rest.factor) a)

abbrev pub decreases-loop-by : goal.decreases-loop-by
decreases-loop-by g l = places g.P.Poly.width (g.P.Poly.value l.rest.element)
