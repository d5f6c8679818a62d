-- What the loop of `walk` keeps.
use Rattle.std.proofs.Common.{◌≡◌}
use Rattle.kind.proofs.Walks.{Come}
use Rattle.kind.proofs.buffer.Blocks.walk.Given as goal

abbrev pub invariant-loop-i : goal.invariant-loop-i
invariant-loop-i g l =
    let old = l.initial.self in
    (l.self.bytes.ghost_name ≡ old.bytes.ghost_name) × (l.self.count ≡ old.count)
    × Come g.K.Block.ops g.S.Step.out g.S.Step.next l.initial.s old.count old.bytes.now l.self.bytes.now l.i l.s
