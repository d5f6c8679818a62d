-- the three passes in order are the sealing
use Rattle.std.proofs.Common.{◌∙◌}
use Rattle.passes.proofs.Walked.{then, as_change}
use Rattle.sealing.specs.Mode.{maps, first_pass, second_pass, third_pass, sealed}
use Rattle.sealing.proofs.Agree.{length_first, length_second, passes_seal}
use Rattle.sealing.proofs.blocks.seal_blocks.Goals as goal

pub returns : goal.returns
returns g c =
    let F = g.C.Block.Block.ops in
    let law = g.met.C.Block.Block.laws in
    let by = maps g.C.Cipher.enc g.C.Cipher.dec in
    let old = c.args.work.now in
    let k = by old.cipher.now in
    let t = old.terms.now in
    let PP = c.first_pass.new.work in
    let CCC = c.second_pass.new.work in
    let new = c.third_pass.new.work in
    as_change (sealed F k t) (λ ks. third_pass F k t (second_pass F k t (first_pass F k t ks))) old new (λ ks l. passes_seal law k t ks)
    (then law (λ ks. second_pass F k t (first_pass F k t ks)) (λ r s. third_pass F (by r.now) s.now) old CCC new (λ ks. length_second law k t _ ∙ length_first law k t ks)
    (then law (first_pass F k t) (λ r s. second_pass F (by r.now) s.now) old PP CCC (length_first law k t) c.first_pass.ensures c.second_pass.ensures)
    c.third_pass.ensures)
