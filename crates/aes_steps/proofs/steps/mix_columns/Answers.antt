-- What is left to show of `aes_steps::steps::mix_columns`.
use Rattle.std.proofs.Common.{◌∙◌}
use Rattle.aes_steps.specs.Steps.{mix, mix_columns}
use Rattle.aes_steps.proofs.Products.{mul_one}
use Rattle.aes_steps.proofs.steps.mix_columns.Goals as goal

pub returns : goal.returns
unfolding mix_columns mix
returns c = c.mixed_columns.ensures ∙ simp mul_one
