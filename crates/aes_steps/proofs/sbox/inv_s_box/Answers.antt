-- What is left to show of `aes_steps::sbox::inv_s_box`.
use Rattle.std.proofs.Common.{get_or, arith}
use Rattle.aes_steps.specs.declared.sbox.TheConstants.{INV_SBOX}
use Rattle.aes_steps.proofs.Tables.{inv_s_boxes_at}
use Rattle.aes_steps.proofs.Sboxes.{inv_substitutes}
use Rattle.aes_steps.proofs.sbox.inv_s_box.Goals as goal

pub returns : goal.returns
returns c =
    let e = inv_s_boxes_at c.args.b (omega arith) in
    record { value = e; rule = inv_substitutes c.args.b (get_or INV_SBOX c.args.b 0) (omega arith) e }
