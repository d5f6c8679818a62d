-- What is left to show of `walk`.
use Rattle.std.proofs.Common.{refl, ◌∙◌, arith}
use Rattle.kind.specs.Blocks.{blocks}
use Rattle.kind.proofs.Overs.{at_none}
use Rattle.kind.proofs.Walks.{turn, done, ended}
use Rattle.kind.proofs.buffer.Blocks.walk.Goals as goal

pub loop-i-init : goal.loop-i-init
loop-i-init g c =
    let old = c.args.self.now in
    (refl, refl, at_none g.S.Step.out g.S.Step.next c.args.s.now (blocks g.K.Block.ops old.count old.bytes.now))

pub loop-i-preserved : goal.loop-i-preserved
loop-i-preserved g c =
    let old = c.args.self.now in
    let now = c.loop-i.self in
    let so_far = c.loop-i.invariant in (
      c.store.ensures.same ∙ so_far.0,
      c.store.ensures.count ∙ so_far.1,
      turn g.K.Block.ops g.S.Step.out g.S.Step.next c.args.s.now old.count old.bytes.now now.count now.bytes.now c.store.new.self.bytes.now c.loop-i.i c.loop-i.s c.step-r.new.self c.load-b.result
          c.step-r.result so_far.1 (omega arith) so_far.2 c.load-b.ensures c.step-r.ensures.value c.store.ensures.value c.step-r.ensures.state,
    )

pub returns : goal.returns
returns g c =
    let old = c.args.self.now in
    let now = c.loop-i.self in
    let so_far = c.loop-i.invariant in
    record {
      blocks = record {
        buffer = so_far.0;
        count = so_far.1;
        bytes = done g.K.Block.ops g.S.Step.out g.S.Step.next c.args.s.now old.count old.bytes.now g.met.K.Block.laws now.count now.bytes.now c.loop-i.i c.loop-i.s
            so_far.1 (omega arith) now.whole now.octets so_far.2;
      };
      state = ended g.K.Block.ops g.S.Step.out g.S.Step.next c.args.s.now old.count old.bytes.now now.bytes.now c.loop-i.i c.loop-i.s (omega arith) so_far.2;
    }
