-- What the loop of `map` keeps: what it wrote is what any map e gives that f computes.
use Rattle.std.proofs.Common.{◌≡◌}
use Rattle.kind.proofs.Walks.{Come}
use Rattle.kind.proofs.buffer.Blocks.map.Given as goal

abbrev pub invariant-loop-i : goal.invariant-loop-i
invariant-loop-i g l =
    let K = g.row.K.Denot in
    let old = l.initial.self in
    (l.self.bytes.ghost_name ≡ old.bytes.ghost_name) × (l.self.count ≡ old.count)
    × ((e : K → K) → ((b r : K) → goal.F-post g l.f b r → r ≡ e b)
    → Come g.K.Block.ops (λ (s : Unit {0}) b. e b) (λ s b. s) tt old.count old.bytes.now l.self.bytes.now l.i tt)
