-- What is left to show of `raised`.
use mathlib.Core.Path.{◌∙◌, ap}
use Rattle.field.specs.Window.{raise}
use Rattle.field.proofs.Raised.{raised128}
use Rattle.poly.proofs.wides.WidePoly.raised.Goals as goal

pub returns : goal.returns
returns c = c.from.ensures ∙ raised128 c.from-number.result c.from-number.type_inv ∙ ap (raise 128 0x87 8) c.from-number.ensures
