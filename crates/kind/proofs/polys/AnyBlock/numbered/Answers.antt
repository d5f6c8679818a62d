-- What is left to show of `numbered`.
use Rattle.kind.specs.PolynomialsLemmas.{is_bin}
use Rattle.kind.proofs.polys.AnyBlock.numbered.Goals as goal

pub returns : goal.returns
returns g c = let p = g.P.Poly in is_bin p.width p.modulus p.value p.field p.numbers c.numbered.result c.args.c c.numbered.ensures
