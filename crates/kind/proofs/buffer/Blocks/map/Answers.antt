-- What is left to show of `map`.
use Rattle.std.proofs.Common.{refl, ap, ◌∙◌, arith}
use Rattle.kind.specs.Blocks.{blocks, flat}
use Rattle.kind.proofs.Walks.{map_over, turn, done}
use Rattle.kind.proofs.buffer.Blocks.map.Goals as goal

pub loop-i-preserved : goal.loop-i-preserved
loop-i-preserved g c =
    let old = c.args.self.now in
    let now = c.loop-i.self in
    let so_far = c.loop-i.invariant in (
      c.store.ensures.same ∙ so_far.0,
      c.store.ensures.count ∙ so_far.1,
      λ e computes. turn g.K.Block.ops (λ s b. e b) (λ s b. s) tt old.count old.bytes.now now.count now.bytes.now c.store.new.self.bytes.now c.loop-i.i tt tt c.load-b.result c.f.result
          so_far.1 (omega arith) (so_far.2 e computes) c.load-b.ensures (computes _ _ c.f.ensures) c.store.ensures.value refl,
    )

pub returns : goal.returns
returns g c e computes =
    let old = c.args.self.now in
    let now = c.loop-i.self in
    let so_far = c.loop-i.invariant in
    record {
      buffer = so_far.0;
      count = so_far.1;
      bytes = done g.K.Block.ops (λ s b. e b) (λ s b. s) tt old.count old.bytes.now g.met.K.Block.laws now.count now.bytes.now c.loop-i.i tt
          so_far.1 (omega arith) now.whole now.octets (so_far.2 e computes)
          ∙ ap (flat g.K.Block.ops) (map_over (λ s b. e b) tt (blocks g.K.Block.ops old.count old.bytes.now));
    }
