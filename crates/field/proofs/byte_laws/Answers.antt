-- What is left to show of `byte_laws`.
use Rattle.field.proofs.Laws.{byte_laws}
use Rattle.field.proofs.byte_laws.Goals as goal

pub returns : goal.returns
returns c = byte_laws
