-- The call needs no ring, so that of no cipher will do.
use Rattle.std.proofs.Common.{[], ap}
use Rattle.capi.specs.Outcomes.{outcome}
use Rattle.cardapi.proofs.calls.format.Goals as goal

pub returns : goal.returns
returns g c =
    let a = c.format.ensures [] in
    record { outcome_is = ap outcome a.outcome; image_is = a.image_is }
