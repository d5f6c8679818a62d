-- What is left to show of `load_block`.
use Rattle.std.proofs.Common.{refl}
use Rattle.kind.proofs.Buffers.{blocks_load}
use Rattle.kind.proofs.buffer.load_block.Goals as goal

pub returns : goal.returns
returns g c m h = blocks_load g.K.Block.ops m c.args.i c.size-n.result _ c.args.bytes.now _ _ c.size-n.ensures refl h c.load.ensures
