-- What is left to show of `inverse_of`.
use Rattle.kind.proofs.Inverses.{is_inverse}
use Rattle.kind.proofs.laws.inverse_of.Goals as goal

pub returns : goal.returns
returns g c = is_inverse g.K.Block.ops g.met.K.Block.laws c.args.a c.inverse.result c.inverse.ensures
