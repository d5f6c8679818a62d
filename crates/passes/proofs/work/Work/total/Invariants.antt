-- what is summed so far and the sum of the blocks that are left make the sum of all
use Rattle.std.proofs.Common.{◌≡◌}
use Rattle.std.specs.Slice.Iter.{chunks_exact_rest, chunks_exact_size}
use Rattle.kind.specs.Blocks.{blocks}
use Rattle.passes.specs.Rows.{sum}
use Rattle.passes.proofs.Walked.{Summed}
use Rattle.passes.proofs.work.Work.total.Given as goal

abbrev pub invariant-loop-chunk : goal.invariant-loop-chunk
invariant-loop-chunk g l =
    let F = g.C.Block.Block.ops in
    (chunks_exact_size l.chunk-iterator ≡ F.size)
    × Summed g.met.C.Block.Block.laws l.t (chunks_exact_rest l.chunk-iterator) (sum F (blocks F l.self.terms.now.m l.self.bytes.now))
