-- What is left to show of `ring_laws`.
use Rattle.field.proofs.Laws.{ring_laws}
use Rattle.field.proofs.ring_laws.Goals as goal

pub returns : goal.returns
returns c = ring_laws
