-- What is left to show of `inverted`.
use Rattle.std.proofs.Common.{◌≡◌, ℕ, zero, suc, ◌+◌, ◌<◌, ◌≢◌, true, false, not, Some, None, Option, eqb, sym, refl, ap, ◌∙◌, subst, arith, pow_pos, MatchOption}
use Rattle.std.specs.Option.{option_eq}
use Rattle.std.proofs.lemmas.Bool.Decides.{nat_tests}
use lib.Count.{count_leading_zeros}
use Rattle.field.specs.Degree.{Degree}
use Rattle.field.specs.Field.{mul}
use Rattle.field.proofs.Degree.{degree_zero, degree_above}
use Rattle.field.proofs.Ring as ring
use Rattle.arithmetic.proofs.poly.inverted.Given as given
use Rattle.arithmetic.proofs.poly.inverted.Goals as goal
use Rattle.arithmetic.proofs.poly.inverted.Goals.{At-loop-big}

-- what the loop's test says of an element that is not zero
ended : (v : ℕ) (r : Option ℕ) → MatchOption r (v ≡ 0) (Degree v) → v ≢ 0 → false ≡ not (option_eq eqb r (Some 0)) → v ≡ 1
ended v None h ne e = absurd (ne h)
ended v (Some zero) h ne e = degree_zero v 0 h refl
ended v (Some (suc d)) h ne e = grind (arith, nat_tests)

goes_on : (v : ℕ) (r : Option ℕ) → MatchOption r (v ≡ 0) (Degree v) → v ≢ 0 → true ≡ not (option_eq eqb r (Some 0)) → 1 < v
goes_on v None h ne e = absurd (ne h)
goes_on v (Some zero) h ne e = absurd cc
goes_on v (Some (suc d)) h ne e = degree_above v (suc d) h (omega arith)

-- what is left of a division is not zero: the inverse's element and the factor are not
nonzero : (g : given.Over) (c : At-loop-big g) → g.P.Poly.value c.loop-big.small.element ≢ 0
nonzero g c z =
    let p = g.P.Poly in
    let l = c.loop-big in
    let a : ℕ = p.value c.args.a in
    let under : ℕ = p.value l.small.factor in
    let ne : a ≢ 0 = λ z. let h = c.in_ok-degree.ensures.0 in omega (arith, pow_pos c.in_ok-degree.field-0) in
    let un : under ≢ 0 = λ z. let h = l.invariant.0.under_le in omega (arith, pow_pos (count_leading_zeros p.width (p.value l.big.element) + 1)) in
    p.field.laws.nonzero under a (p.numbers.below l.small.factor) (p.numbers.below c.args.a) un ne (sym l.invariant.2 ∙ z)

pub returns-then-branch-eq0 : goal.returns-then-branch-eq0
returns-then-branch-eq0 g c =
    let p = g.P.Poly in
    let a : ℕ = p.value c.args.a in
    let e : a ≡ 1 = degree_zero a c.in_ok-degree.field-0 c.in_ok-degree.ensures c.if-branch-eq0.true in
    ap (mul p.width p.modulus a) e ∙ ring.mul_one_r p.width p.modulus p.field.fits a (p.numbers.below c.args.a) ∙ e

pub modulus_divided-small-requires-clause-divisor : goal.modulus_divided-small-requires-clause-divisor
modulus_divided-small-requires-clause-divisor g c =
    let h : 1 < g.P.Poly.value c.args.a = degree_above (g.P.Poly.value c.args.a) c.in_ok-degree.field-0 c.in_ok-degree.ensures (omega (arith, c.if-branch-eq0.false)) in
    subst (λ (e : g.row.P.Denot). 1 < g.P.Poly.value e) (sym c.new-big.ensures.element) h

pub loop-big-init : goal.loop-big-init
loop-big-init g c =
    let p = g.P.Poly in
    let a : ℕ = p.value c.args.a in
    let e : p.value c.new-big.result.element ≡ a = ap p.value c.new-big.ensures.element in (
      c.modulus_divided-small.ensures.descent,
      e ∙ sym (ap (λ (o : ℕ). mul p.width p.modulus o a) (ap p.value c.new-big.ensures.factor ∙ c.one.ensures) ∙ ring.mul_one_l p.width p.modulus p.field.fits p.field.wide a (p.numbers.below c.args.a)),
      c.modulus_divided-small.ensures.product ∙ ap (mul p.width p.modulus (p.value c.modulus_divided-small.result.factor)) e,
    )

pub divided-rest-requires-clause-divisor : goal.divided-rest-requires-clause-divisor
divided-rest-requires-clause-divisor g c =
    goes_on (g.P.Poly.value c.loop-big.small.element) c.degree-in-loop-big.result c.degree-in-loop-big.ensures
    (nonzero g (goal.at.divided-rest-requires-clause-divisor g c).At-loop-big) c.loop-big-test.ensures

pub returns : goal.returns
returns g c =
    let p = g.P.Poly in
    let l = c.loop-big in
    ring.mul_comm p.width p.modulus p.field.fits p.field.wide (p.value c.args.a) (p.value l.small.factor) (p.numbers.below c.args.a) (p.numbers.below l.small.factor)
    ∙ sym l.invariant.2
    ∙ ended (p.value l.small.element) c.degree-in-loop-big.result c.degree-in-loop-big.ensures (nonzero g (goal.at.returns g c).At-loop-big) c.loop-big-test.ensures
