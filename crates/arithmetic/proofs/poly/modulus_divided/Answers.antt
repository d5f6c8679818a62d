-- What is left to show of `modulus_divided`.
use Rattle.std.proofs.Common.{ℕ, ◌+◌, sym, ap, ◌∙◌, arith}
use Rattle.field.specs.Field.{mul}
use Rattle.field.proofs.Divide.{short_shift}
use Rattle.field.proofs.Ring as ring
use Rattle.arithmetic.proofs.Descents.{begun, begun_product}
use Rattle.arithmetic.proofs.poly.modulus_divided.Goals as goal

pub plus_moved-requires : goal.plus_moved-requires
plus_moved-requires g c =
    let p = g.P.Poly in
    omega (arith, c.args.divisor.now.counted, short_shift p.width (p.value c.args.divisor.now.element) p.field.wide c.requires.divisor (p.numbers.below c.args.divisor.now.element))

pub remainder-requires-clause-division : goal.remainder-requires-clause-division
remainder-requires-clause-division g c =
    let p = g.P.Poly in
    begun p.width p.modulus (p.value c.new-modulus.result.element) (p.value c.new-modulus.result.factor) (p.value c.args.divisor.now.element) (p.value c.args.divisor.now.factor) (c.args.divisor.now.zeros + 1)
    (p.value c.plus_moved.result.element) (p.value c.plus_moved.result.factor) p.field.fits p.field.wide c.requires.divisor (p.numbers.below c.args.divisor.now.element)
    (ap p.value c.new-modulus.ensures.element ∙ c.low_terms.ensures) (ap p.value c.new-modulus.ensures.factor ∙ c.zero.ensures) c.requires.factor (omega (arith, c.args.divisor.now.counted)) c.plus_moved.ensures.element c.plus_moved.ensures.factor

pub returns-clause-product : goal.returns-clause-product
returns-clause-product g c =
    let p = g.P.Poly in
    let u : ℕ = p.value c.args.divisor.now.element in
    c.remainder.ensures.product u (p.numbers.below c.args.divisor.now.element)
    (begun_product p.width p.modulus (p.value c.new-modulus.result.element) (p.value c.new-modulus.result.factor) u (p.value c.args.divisor.now.factor) (c.args.divisor.now.zeros + 1)
    (p.value c.plus_moved.result.element) (p.value c.plus_moved.result.factor) p.field.fits p.field.wide c.requires.divisor (p.numbers.below c.args.divisor.now.element)
    (ap p.value c.new-modulus.ensures.element ∙ c.low_terms.ensures) (ap p.value c.new-modulus.ensures.factor ∙ c.zero.ensures) c.requires.factor (omega (arith, c.args.divisor.now.counted)) c.plus_moved.ensures.element c.plus_moved.ensures.factor)
    (sym (ap (λ (o : ℕ). mul p.width p.modulus o u) c.requires.factor ∙ ring.mul_one_l p.width p.modulus p.field.fits p.field.wide u (p.numbers.below c.args.divisor.now.element)))
