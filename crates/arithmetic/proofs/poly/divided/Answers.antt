-- What is left to show of `divided`.
use Rattle.std.proofs.Common.{◌-◌, arith}
use Rattle.field.proofs.Euclid.{taken}
use Rattle.arithmetic.proofs.Descents.{Moved, first}
use Rattle.arithmetic.proofs.poly.divided.Given as given
use Rattle.arithmetic.proofs.poly.divided.Goals as goal
use Rattle.arithmetic.proofs.poly.divided.Goals.{After-plus_moved}

moved : (g : given.Over) (c : After-plus_moved g) → let p = g.P.Poly in
    Moved p.width (p.value c.args.big.now.element) (p.value c.args.small.now.element) (p.value c.args.small.now.factor) (c.args.small.now.zeros - c.args.big.now.zeros) (p.value c.plus_moved.result.element) (p.value c.plus_moved.result.factor)
moved g c =
    let p = g.P.Poly in
    first p.width (p.value c.args.big.now.element) (p.value c.args.big.now.factor) (p.value c.args.small.now.element) (p.value c.args.small.now.factor) (c.args.small.now.zeros - c.args.big.now.zeros)
    (p.value c.plus_moved.result.element) (p.value c.plus_moved.result.factor) p.field.wide (p.numbers.below c.args.small.now.element) (p.numbers.below c.args.big.now.element) c.requires.divisor
    (omega (arith, c.requires.descent.falls)) (omega (arith, c.args.small.now.counted, c.args.big.now.counted)) c.plus_moved.ensures.element c.plus_moved.ensures.factor c.requires.descent

pub remainder-requires-clause-division : goal.remainder-requires-clause-division
remainder-requires-clause-division g c = (moved g c).division

pub returns-clause-product : goal.returns-clause-product
returns-clause-product g c = λ a h e d.
    let p = g.P.Poly in
    let m = moved g (goal.at.returns-clause-product g c).After-plus_moved in
    c.remainder.ensures.product a h
    (taken p.width p.modulus p.field.fits p.field.wide (p.value c.args.small.now.element) (p.value c.args.small.now.factor) (p.value c.args.big.now.element) (p.value c.args.big.now.factor) a
    (c.args.small.now.zeros - c.args.big.now.zeros) (p.value c.plus_moved.result.element) (p.value c.plus_moved.result.factor) h (p.numbers.below c.args.small.now.element) m.element_fits m.factor_fits
    c.plus_moved.ensures.element c.plus_moved.ensures.factor d e)
    d
