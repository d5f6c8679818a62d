-- What is left to show of `doubled`.
use mathlib.Core.Path.{◌∙◌, ap}
use lib.Dec.{lit<}
use Rattle.field.specs.Field.{times_x}
use Rattle.field.proofs.Steps.{branchless}
use Rattle.poly.proofs.wides.WidePoly.doubled.Goals as goal

pub returns : goal.returns
returns c =
    c.from.ensures ∙ branchless 128 0x87 c.from-number.result (lit< tt) c.from-number.type_inv ∙ ap (times_x 128 0x87) c.from-number.ensures
