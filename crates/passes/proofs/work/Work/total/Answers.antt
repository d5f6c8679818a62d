-- each turn moves one block from what is left to what is summed
use Rattle.std.proofs.Common.{◌<◌, length, subst, ◌∙◌}
use Rattle.std.specs.Slice.Iter.{chunks_exact_rest}
use Rattle.passes.proofs.Walked.{sum_more, sum_all}
use Rattle.passes.proofs.work.Work.total.Goals as goal

pub loop-chunk-preserved : goal.loop-chunk-preserved
loop-chunk-preserved g c =
    let so_far = c.loop-chunk.invariant in
    let s = c.in-Some.ensures.steps in (
      s.0 ∙ so_far.0,
      sum_more g.met.C.Block.Block.laws _ _ _ c.load.result c.loop-chunk.t c.add-t.result _ s.1.0 (s.1.1 ∙ so_far.0) c.load.ensures c.add-t.ensures so_far.1,
    )

pub returns : goal.returns
returns g c =
    let so_far = c.loop-chunk.invariant in
    let s = c.in-None.ensures.steps in
    sum_all g.met.C.Block.Block.laws _ c.loop-chunk.t _ (subst (λ n. length (chunks_exact_rest c.loop-chunk.chunk-iterator) < n) so_far.0 s.1.0) so_far.1
