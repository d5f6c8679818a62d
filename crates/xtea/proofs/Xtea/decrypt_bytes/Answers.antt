-- What is left to show of `xtea::Xtea::decrypt_bytes`.
use Rattle.std.proofs.Common.{rules, ap, ◌∙◌}
use Rattle.xtea.specs.Repeat.{repeat}
use Rattle.xtea.specs.Xtea.{inv_cycle, bytes_of, decipher}
use Rattle.xtea.proofs.Xtea.decrypt_bytes.Goals as goal

pub returns : goal.returns
unfolding decipher
returns c =
    c.bytes.ensures ∙ ap bytes_of (c.after_cycles.ensures (inv_cycle c.args.self.now.key) (λ w r f k. search rules) ∙ ap (repeat (inv_cycle c.args.self.now.key) 32) c.new.ensures)
