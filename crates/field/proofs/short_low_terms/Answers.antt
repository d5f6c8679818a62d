-- What is left to show of `short_low_terms`.
use Rattle.std.proofs.Common.{refl}
use Rattle.field.proofs.Laws.{short_field, short_masks}
use Rattle.field.proofs.short_low_terms.Goals as goal

pub returns : goal.returns
returns c = record { terms = refl; field = short_field; masks = short_masks }
