-- the masks of M2 added, then the product with the powers: the third pass
use Rattle.std.proofs.Common.{subst₂}
use Rattle.passes.specs.Changed.{Changed}
use Rattle.passes.specs.Scheme.{mask, masked, times_powers, by_count, finished}
use Rattle.passes.proofs.Algebra.{length_each}
use Rattle.passes.proofs.Walked.{then, as_change}
use Rattle.sealing.specs.Mode.{maps, third_pass}
use Rattle.sealing.proofs.Agree.{third_agrees}
use Rattle.sealing.proofs.blocks.third_pass.Goals as goal

pub returns : goal.returns
returns g c =
    let F = g.C.Block.Block.ops in
    let law = g.met.C.Block.Block.laws in
    let old = c.args.work.now in
    let k = maps g.C.Cipher.enc g.C.Cipher.dec old.cipher.now in
    let t = old.terms.now in
    let made = c.add_masks.new.self in
    as_change (third_pass F k t) (finished F k.E k.D t) old c.multiply_by_powers.new.self (third_agrees law k t)
    (then law (masked F k.E (mask F t (F.mul F.x t.een)) (by_count t.m t.en t.en t.een)) (λ r s. times_powers F t.r) old made c.multiply_by_powers.new.self (λ ks. length_each _ 0 ks)
    (subst₂ (λ single end. Changed (masked F k.E (mask F t single) end) old made) c.double.ensures c.by_size-end.ensures c.add_masks.ensures)
    c.multiply_by_powers.ensures)
