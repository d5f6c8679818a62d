-- What is left to show of `aes_steps::factors::xtime`.
use Rattle.std.proofs.Common.{◌≡◌, ◌*◌, ◌/◌, ◌%◌, sym, ap, arith}
use lib.Bits.{bit_xor}
use Rattle.field.specs.Field.{times_x}
use Rattle.aes_steps.proofs.factors.xtime.Goals as goal

pub returns : goal.returns
unfolding times_x
returns c =
    let e : c.args.b / 128 % 2 ≡ c.args.b / 128 = omega arith in
    ap (λ x. bit_xor (c.args.b * 2 % 256) (x * 27)) (sym e)
