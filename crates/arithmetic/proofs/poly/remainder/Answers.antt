-- What is left to show of `remainder`.
use Rattle.std.proofs.Common.{arith}
use Rattle.field.proofs.Divide.{short_shift}
use Rattle.field.proofs.Euclid.{taken}
use Rattle.arithmetic.proofs.Descents.{Moved, next}
use Rattle.arithmetic.proofs.poly.remainder.Given as given
use Rattle.arithmetic.proofs.poly.remainder.Goals as goal
use Rattle.arithmetic.proofs.poly.remainder.Goals.{After-plus_moved-rest}

moved : (g : given.Over) (c : After-plus_moved-rest g) → let p = g.P.Poly in
    Moved p.width (p.value c.loop-by.rest.element) (p.value c.args.small.now.element) (p.value c.args.small.now.factor) c.in-Some.by (p.value c.plus_moved-rest.result.element) (p.value c.plus_moved-rest.result.factor)
moved g c =
    let p = g.P.Poly in
    next p.width (p.value c.loop-by.rest.element) (p.value c.loop-by.rest.factor) (p.value c.args.small.now.element) (p.value c.args.small.now.factor) c.in-Some.by
    (p.value c.plus_moved-rest.result.element) (p.value c.plus_moved-rest.result.factor) p.field.wide (p.numbers.below c.args.small.now.element) (p.numbers.below c.loop-by.rest.element) c.requires.divisor
    (omega (arith, c.in-Some.ensures.0, c.loop-by.rest.counted, c.args.small.now.counted)) (omega (arith, c.in-Some.ensures.1, c.loop-by.rest.counted, c.args.small.now.counted)) c.plus_moved-rest.ensures.element c.plus_moved-rest.ensures.factor c.loop-by.invariant.0

pub loop-by-smaller : goal.loop-by-smaller
loop-by-smaller g c = omega (arith, (moved g c).falls, c.in-Some.ensures.0, c.loop-by.rest.counted, c.args.small.now.counted, short_shift g.P.Poly.width (g.P.Poly.value c.args.small.now.element) g.P.Poly.field.wide c.requires.divisor (g.P.Poly.numbers.below c.args.small.now.element))

pub loop-by-preserved : goal.loop-by-preserved
loop-by-preserved g c =
    let p = g.P.Poly in
    let m = moved g c in (
      m.division,
      λ a h e d. taken p.width p.modulus p.field.fits p.field.wide (p.value c.args.small.now.element) (p.value c.args.small.now.factor) (p.value c.loop-by.rest.element) (p.value c.loop-by.rest.factor) a
          c.in-Some.by (p.value c.plus_moved-rest.result.element) (p.value c.plus_moved-rest.result.factor) h (p.numbers.below c.args.small.now.element) m.element_fits m.factor_fits
          c.plus_moved-rest.ensures.element c.plus_moved-rest.ensures.factor d (c.loop-by.invariant.1 a h e d),
    )
