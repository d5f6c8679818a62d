-- the walk with the powers is the product with each place's power
use Rattle.std.proofs.Common.{ap, ◌∙◌, arith}
use Rattle.kind.specs.Blocks.{blocks, flat}
use Rattle.kind.proofs.Buffers.{blocks_length}
use Rattle.passes.proofs.Walked.{powers_over}
use Rattle.passes.proofs.changes.multiply_by_powers.Goals as goal

pub returns : goal.returns
returns g c =
    let o = g.K.Block.ops in
    let old = c.args.buffer.now in
    let ks = blocks o old.count old.bytes.now in
    let p = c.walk.ensures.blocks in
    record {
      buffer = p.buffer;
      count = p.count;
      bytes = p.bytes ∙ ap (flat o) (powers_over g.met.K.Block.laws c.args.r c.saturating_sub.result ks (omega (arith, blocks_length o old.count old.bytes.now)));
    }
