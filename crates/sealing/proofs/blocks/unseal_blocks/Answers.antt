-- the five changes of an unsealing, in their order
use Rattle.std.proofs.Common.{map, subst, ◌∙◌}
use lib.ListN.{length-map}
use Rattle.passes.specs.Changed.{Changed}
use Rattle.passes.specs.Scheme as scheme
use Rattle.passes.specs.Scheme.{mask, masked, times_powers, by_count}
use Rattle.passes.proofs.Algebra.{length_each}
use Rattle.passes.proofs.Walked.{then, as_change}
use Rattle.sealing.specs.Mode.{maps, unsealed}
use Rattle.sealing.proofs.Agree.{unsealed_agrees}
use Rattle.sealing.proofs.blocks.unseal_blocks.Goals as goal

pub returns : goal.returns
returns g c =
    let F = g.C.Block.Block.ops in
    let law = g.met.C.Block.Block.laws in
    let enc = g.C.Cipher.enc in
    let dec = g.C.Cipher.dec in
    let old = c.args.work.now in
    let k = maps enc dec old.cipher.now in
    let t = old.terms.now in
    let l = c.args.l in
    let w₁ = c.multiply_by_powers.new.self in
    let w₂ = c.add_masks.new.self in
    let w₃ = c.decrypt_all.new.self in
    let w₄ = c.add_masks-2.new.self in
    let w₅ = c.multiply_by_powers-2.new.self in
    let f₁ = times_powers F l in
    let f₂ = masked F k.E (mask F t (F.mul F.x t.een)) t.een in
    let f₄ = masked F k.E (mask F t t.en) (by_count t.m t.een t.een t.en) in
    as_change (unsealed F k t l) (scheme.unsealed F k.E k.D t l) old w₅ (λ ks n. unsealed_agrees law k t ks n l)
    (then law (λ ks. f₄ (map k.D (f₂ (f₁ ks)))) (λ r s. f₁) old w₄ w₅ (λ ks. length_each _ 0 _ ∙ length-map _ k.D ∙ length_each _ 0 _ ∙ length_each _ 0 ks)
    (then law (λ ks. map k.D (f₂ (f₁ ks))) (λ r s. masked F (enc r.now) (mask F s.now t.en) (by_count t.m t.een t.een t.en)) old w₃ w₄ (λ ks. length-map _ k.D ∙ length_each _ 0 _ ∙ length_each _ 0 ks)
    (then law (λ ks. f₂ (f₁ ks)) (λ r s. map (dec r.now)) old w₂ w₃ (λ ks. length_each _ 0 _ ∙ length_each _ 0 ks)
    (then law f₁ (λ r s. masked F (enc r.now) (mask F s.now (F.mul F.x t.een)) t.een) old w₁ w₂ (λ ks. length_each _ 0 ks) c.multiply_by_powers.ensures
    (subst (λ single. Changed (masked F (enc w₁.cipher.now) (mask F w₁.terms.now single) t.een) w₁ w₂) c.double.ensures c.add_masks.ensures))
    c.decrypt_all.ensures)
    (subst (λ end. Changed (masked F (enc w₃.cipher.now) (mask F w₃.terms.now t.en) end) w₃ w₄) c.by_size-end.ensures c.add_masks-2.ensures))
    c.multiply_by_powers-2.ensures)
