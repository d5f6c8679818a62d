-- What is left to show of `read`.
use Rattle.std.proofs.Common.{◌∙◌, arith}
use Rattle.poly.proofs.Octets.{number_read}
use Rattle.poly.proofs.fields.WideField.read.Goals as goal

pub returns : goal.returns
returns c = c.from.ensures ∙ c.from_be_bytes.ensures ∙ number_read 15 c.args.from.now (omega (arith, c.requires))
