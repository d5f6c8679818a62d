-- What is left to show of `aes_steps::steps::inv_sub_bytes`.
use Rattle.std.proofs.Common.{rules}
use Rattle.aes_steps.specs.Sbox.{inv_s_box}
use Rattle.aes_steps.specs.Steps.{inv_sub_bytes}
use Rattle.aes_steps.proofs.States.{each_byte}
use Rattle.aes_steps.proofs.steps.inv_sub_bytes.Goals as goal

pub returns : goal.returns
unfolding inv_sub_bytes
returns c = each_byte inv_s_box c.args.s c.map.result c.map.ensures.items.long (λ i h. let e = c.map.ensures.items.at i 0 0 h in search rules)
