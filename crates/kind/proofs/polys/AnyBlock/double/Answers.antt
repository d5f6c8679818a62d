-- What is left to show of `double`.
use Rattle.kind.specs.PolynomialsLemmas.{is_double}
use Rattle.kind.proofs.polys.AnyBlock.double.Goals as goal

pub returns : goal.returns
returns g c = let p = g.P.Poly in is_double p.width p.modulus p.value p.field p.numbers c.args.self c.doubled.result c.doubled.ensures
