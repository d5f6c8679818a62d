-- What is left to show of `aes_steps::sbox::s_box`.
use Rattle.std.proofs.Common.{get_or, arith}
use Rattle.aes_steps.specs.declared.sbox.TheConstants.{SBOX}
use Rattle.aes_steps.proofs.Tables.{s_boxes_at}
use Rattle.aes_steps.proofs.Sboxes.{substitutes}
use Rattle.aes_steps.proofs.sbox.s_box.Goals as goal

pub returns : goal.returns
returns c =
    let e = s_boxes_at c.args.b (omega arith) in
    record { value = e; rule = substitutes c.args.b (get_or SBOX c.args.b 0) (omega arith) e }
