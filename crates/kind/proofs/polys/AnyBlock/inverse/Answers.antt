-- What is left to show of `inverse`.
use Rattle.kind.specs.PolynomialsLemmas.{is_inverse}
use Rattle.kind.proofs.polys.AnyBlock.inverse.Goals as goal

pub returns : goal.returns
returns g c = let p = g.P.Poly in is_inverse p.width p.modulus p.value p.field p.numbers c.args.self c.inverted.result c.inverted.ensures
