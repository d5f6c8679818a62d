-- What is left to show of `wide_low_terms`.
use Rattle.std.proofs.Common.{refl}
use Rattle.field.proofs.Laws.{wide_field, wide_masks}
use Rattle.field.proofs.wide_low_terms.Goals as goal

pub returns : goal.returns
returns c = record { terms = refl; field = wide_field; masks = wide_masks }
