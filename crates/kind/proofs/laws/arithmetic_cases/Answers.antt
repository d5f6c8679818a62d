-- What is left to show of `arithmetic_cases`.
use Rattle.kind.proofs.Cases.{arithmetic_cases}
use Rattle.kind.proofs.laws.arithmetic_cases.Goals as goal

pub returns : goal.returns
returns c = arithmetic_cases
