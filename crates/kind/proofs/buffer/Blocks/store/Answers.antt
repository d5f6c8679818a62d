-- What is left to show of `store`.
use Rattle.std.proofs.Common.{refl}
use Rattle.kind.proofs.Buffers.{blocks_store}
use Rattle.kind.proofs.buffer.Blocks.store.Goals as goal

pub returns-clause-value : goal.returns-clause-value
returns-clause-value g c =
    blocks_store g.K.Block.ops g.met.K.Block.laws c.args.self.now.count c.args.i c.size-n.result _ c.args.self.now.bytes.now c.store.new.into c.args.k
    c.size-n.ensures refl c.requires c.args.self.now.whole c.store.ensures
