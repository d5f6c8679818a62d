-- The numbers so far, with those of what is still to come, are the whole, and so is the first refusal.
use Rattle.std.proofs.Common.{◌≡◌}
use Rattle.std.specs.Iterator.Adapters.{enumerate_source, enumerate_count}
use Rattle.walk.specs.Walks.{coming}
use Rattle.walkapi.specs.Codes.{first_refusal, noted}
use Rattle.walkapi.proofs.note_walk.Given as goal

abbrev pub invariant-loop-sector : goal.invariant-loop-sector
invariant-loop-sector g l =
    let it = l.sector-iterator in
    let whole = coming (enumerate_source l.initial.sector-iterator) in
    (goal.iterator-loop-sector g).can_next it
    × (goal.iterator-loop-sector g).is_finite it
    × (first_refusal (coming (enumerate_source it)) ≡ first_refusal whole)
    × (noted (enumerate_count it) l.codes (coming (enumerate_source it)) ≡ noted 0 l.initial.codes whole)
