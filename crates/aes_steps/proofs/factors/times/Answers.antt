-- What is left to show of `aes_steps::factors::times`.
use Rattle.aes_steps.proofs.Products.{mul_four_bits}
use Rattle.aes_steps.proofs.factors.times.Goals as goal

pub returns : goal.returns
returns g c = let e = mul_four_bits g.row.FACTOR c.args.b in cc
