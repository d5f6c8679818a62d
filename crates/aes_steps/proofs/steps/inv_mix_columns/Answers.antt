-- What is left to show of `aes_steps::steps::inv_mix_columns`.
use Rattle.aes_steps.specs.Steps.{inv_mix, inv_mix_columns}
use Rattle.aes_steps.proofs.steps.inv_mix_columns.Goals as goal

pub returns : goal.returns
unfolding inv_mix_columns inv_mix
returns c = c.mixed_columns.ensures
