-- The first refusal of what is still to come is that of the whole.
use Rattle.std.proofs.Common.{◌≡◌}
use Rattle.walk.specs.Walks.{coming}
use Rattle.walkapi.specs.Codes.{first_refusal}
use Rattle.walkapi.proofs.check_walk.Given as goal

abbrev pub invariant-loop-entry : goal.invariant-loop-entry
invariant-loop-entry g l =
    (goal.iterator-loop-entry g).can_next l.entry-iterator
    × (goal.iterator-loop-entry g).is_finite l.entry-iterator
    × (first_refusal (coming l.entry-iterator) ≡ first_refusal (coming l.initial.entry-iterator))
