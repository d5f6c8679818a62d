-- What is left to show of `mask_degree`.
use Rattle.std.proofs.Common.{sym, ◌∙◌}
use Rattle.kind.specs.Polynomials.{poly_ops}
use Rattle.coefficient.proofs.Places.{coefficient_degree, missing}
use Rattle.coefficient.proofs.mask_degree.Goals as goal

pub returns-in_err-coefficient : goal.returns-in_err-coefficient
returns-in_err-coefficient g c =
    let p = g.P.Poly in
    rw c.from_residual.ensures (missing (poly_ops p.width p.modulus p.value p.numbers) c.args.m c.args.i (sym c.in_err-coefficient.was ∙ c.mask_coefficient.ensures))

pub returns : goal.returns
returns g c =
    let p = g.P.Poly in
    coefficient_degree p.width p.modulus p.value p.field p.numbers c.args.m c.args.i c.in_ok-coefficient.coefficient c.degree.result
    (sym c.in_ok-coefficient.was ∙ c.mask_coefficient.ensures) c.degree.ensures
