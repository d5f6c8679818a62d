-- the masks of M1 added, then E of each block: the second pass
use Rattle.std.proofs.Common.{map}
use Rattle.passes.specs.Scheme.{mask, masked, enciphered}
use Rattle.passes.proofs.Algebra.{length_each}
use Rattle.passes.proofs.Walked.{then, as_change}
use Rattle.sealing.specs.Mode.{maps, second_pass}
use Rattle.sealing.proofs.Agree.{second_agrees}
use Rattle.sealing.proofs.blocks.second_pass.Goals as goal

pub returns : goal.returns
returns g c =
    let F = g.C.Block.Block.ops in
    let law = g.met.C.Block.Block.laws in
    let enc = g.C.Cipher.enc in
    let old = c.args.work.now in
    let k = maps enc g.C.Cipher.dec old.cipher.now in
    let t = old.terms.now in
    as_change (second_pass F k t) (enciphered F k.E k.D t) old c.encrypt_all.new.self (second_agrees law k t)
    (then law (masked F k.E (mask F t t.en) t.en) (λ r s. map (enc r.now)) old c.add_masks.new.self c.encrypt_all.new.self (λ ks. length_each _ 0 ks)
    c.add_masks.ensures c.encrypt_all.ensures)
