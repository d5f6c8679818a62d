-- the closure computes the cipher's map
use Rattle.std.proofs.Common.{rules}
use Rattle.passes.proofs.work.Work.encrypt_all.Goals as goal

pub returns : goal.returns
returns g c = c.map.ensures (g.C.Cipher.enc c.args.self.now.cipher.now) (λ b r given. search rules)
