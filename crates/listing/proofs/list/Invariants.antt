-- The text so far, with the lines of what is still to come, is the whole text.
use Rattle.std.proofs.Common.{◌≡◌, string_bytes}
use Rattle.std.specs.Iterator.Adapters.{enumerate_source, enumerate_count}
use Rattle.walk.specs.Walks.{coming}
use Rattle.listing.specs.Lines.{listed}
use Rattle.listing.proofs.list.Given as goal

abbrev pub invariant-loop-sector : goal.invariant-loop-sector
invariant-loop-sector l =
    let it = l.sector-iterator in
    let whole = listed (string_bytes l.initial.text) 0 (coming (enumerate_source l.initial.sector-iterator)) in
    (goal.iterator-loop-sector).can_next it
    × (goal.iterator-loop-sector).is_finite it
    × (listed (string_bytes l.text) (enumerate_count it) (coming (enumerate_source it)) ≡ whole)
