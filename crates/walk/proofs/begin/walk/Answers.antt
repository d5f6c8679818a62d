-- A walk that is begun has the whole card before it.
use Rattle.std.proofs.Common.{ℕ, length, drop, Ok, sym, refl, ap, ◌∙◌, arith}
use Rattle.std.specs.Slice.Iter.{iter_rest}
use Rattle.std.specs.Iterator.Adapters.{enumerate_source}
use Rattle.layout.specs.Layout.{head_checks, count_of, header_length}
use Rattle.layout.proofs.Verdicts.{ruled_ok, ruled_all}
use Rattle.layout.proofs.Cuts.{length-chunks}
use Rattle.walk.specs.Contents.{walk_from, walk_on}
use Rattle.walk.proofs.Whole.{run, walk_on_records}
use Rattle.walk.proofs.begin.walk.Goals as goal

pub invariant_of-result : goal.invariant_of-result
invariant_of-result g c =
    let w = g.K.Block.ops.size in
    let image = c.args.image.now in
    let rest = ap iter_rest c.enumerate-records.ensures.source ∙ c.iter.ensures.rest ∙ c.records.ensures in
    let l = ap length rest ∙ length-chunks (count_of w image) (drop (header_length w) image) in
    let fits = c.in_ok-count.ensures.fits in
    record { few = fits.few; within = omega (arith, l, c.enumerate-records.ensures.count, fits.count) }

pub returns-clause-outcome : goal.returns-clause-outcome
returns-clause-outcome g c =
    let w = g.K.Block.ops.size in
    let image = c.args.image.now in
    let n = count_of w image in
    let it = c.enumerate-records.result in
    let rest = ap iter_rest c.enumerate-records.ensures.source ∙ c.iter.ensures.rest ∙ c.records.ensures in
    let passed = ruled_ok (head_checks w image) n c.in_ok-count.count (sym c.in_ok-count.ensures.outcome) in
    ap Ok
    (ap (λ (s : ℕ). walk_on s (iter_rest (enumerate_source it))) c.enumerate-records.ensures.count
    ∙ ap (walk_on 0) rest
    ∙ walk_on_records w image)
    ∙ sym (ruled_all (head_checks w image) (walk_from (header_length w) image 0 n) passed.0)

pub returns-clause-whole : goal.returns-clause-whole
returns-clause-whole g c = run _ (record { records = c.enumerate-records.result; count = c.in_ok-count.count; few = _; within = _ }) refl
