-- What is left to show of `times_both`.
use Rattle.std.proofs.Common.{◌∙◌}
use Rattle.kind.specs.PolynomialsLemmas.{is_element, poly_laws}
use Rattle.kind.proofs.polys.AnyBlock.times_both.Goals as goal

pub returns : goal.returns
returns g c =
    let p = g.P.Poly in
    let l = poly_laws p.width p.modulus p.value p.field p.numbers in
    record {
      first = is_element p.width p.modulus p.value p.field p.numbers c.products.result.0 _ c.products.ensures.first ∙ l.mul_comm c.args.a c.args.self;
      second = is_element p.width p.modulus p.value p.field p.numbers c.products.result.1 _ c.products.ensures.second ∙ l.mul_comm c.args.c c.args.self;
    }
