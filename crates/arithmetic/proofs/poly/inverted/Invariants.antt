-- What the loop of `inverted` keeps, and what falls at each turn.
use Rattle.std.proofs.Common.{◌≡◌}
use Rattle.field.specs.Degree.{places}
use Rattle.field.specs.Field.{mul}
use Rattle.arithmetic.specs.Descent.{Descent}
use Rattle.arithmetic.proofs.poly.inverted.Given as goal

abbrev pub invariant-loop-big : goal.invariant-loop-big
invariant-loop-big g l =
    let p = g.P.Poly in
    Descent p.width (p.value l.big.element) (p.value l.big.factor) (p.value l.small.element) (p.value l.small.factor)
    × (p.value l.big.element ≡ mul p.width p.modulus (p.value l.big.factor) (p.value l.fn.a))
    × (p.value l.small.element ≡ mul p.width p.modulus (p.value l.small.factor) (p.value l.fn.a))

abbrev pub decreases-loop-big : goal.decreases-loop-big
decreases-loop-big g l = places g.P.Poly.width (g.P.Poly.value l.small.element)
