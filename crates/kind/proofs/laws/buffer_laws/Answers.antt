-- What is left to show of `buffer_laws`.
use Rattle.kind.proofs.Buffers.{blocks_length, flat_blocks, blocks_flat}
use Rattle.kind.proofs.laws.buffer_laws.Goals as goal

pub returns : goal.returns
returns g c =
    let o = g.K.Block.ops in
    let l = g.met.K.Block.laws in
    record { count = blocks_length o; flat_blocks = flat_blocks o l; blocks_flat = blocks_flat o l }
