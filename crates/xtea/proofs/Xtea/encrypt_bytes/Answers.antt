-- What is left to show of `xtea::Xtea::encrypt_bytes`.
use Rattle.std.proofs.Common.{rules, ap, ◌∙◌}
use Rattle.xtea.specs.Repeat.{repeat}
use Rattle.xtea.specs.Xtea.{cycle, bytes_of, encipher}
use Rattle.xtea.proofs.Xtea.encrypt_bytes.Goals as goal

pub returns : goal.returns
unfolding encipher
returns c =
    c.bytes.ensures ∙ ap bytes_of (c.after_cycles.ensures (cycle c.args.self.now.key) (λ w r f k. search rules) ∙ ap (repeat (cycle c.args.self.now.key) 32) c.new.ensures)
