-- each accepted pass hands on the same terms, so the three together are the sealing
use Rattle.std.proofs.Common.{◌≡◌, ap, ◌∙◌}
use Rattle.passes.specs.Rows.{on_blocks}
use Rattle.sealing.specs.Mode.{maps, first_pass, second_pass, third_pass}
use Rattle.stages.specs.Stages.{next_stage}
use Rattle.stages.proofs.Order.{same_terms, changed, in_order}
use Rattle.stages.proofs.seal_by_passes.Goals as goal

pub returns : goal.returns
returns g c =
    let F = g.C.Block.Block.ops in
    let law = g.met.C.Block.Block.laws in
    let k = maps g.C.Cipher.enc g.C.Cipher.dec c.args.cipher.now in
    let bs = c.args.buffer.now in
    let b₁ = c.hash.new.buffer in
    let b₂ = c.encipher.new.buffer in
    let b₃ = c.finish.new.buffer in
    let begun = c.in_ok-begun.begun in
    let hashed = c.in_ok-hashed.hashed in
    let enciphered = c.in_ok-enciphered.enciphered in
    let p₁ = c.in_ok-hashed.ensures in
    let p₂ = c.in_ok-enciphered.ensures in
    let p₃ = c.in_ok-finish.ensures in
    let e₁ : hashed.terms ≡ begun.terms = same_terms law k begun.terms (λ n. n.terms) (first_pass F k begun.terms) hashed (next_stage begun) begun bs b₁ p₁.answers p₁.leaves in
    let e₂ : enciphered.terms ≡ begun.terms =
    same_terms law k hashed.terms (λ n. n.terms) (second_pass F k hashed.terms) enciphered (next_stage hashed) hashed b₁ b₂ p₂.answers p₂.leaves ∙ e₁ in
    let r = in_order law k c.args.tweak.now bs begun b₁ b₂ b₃ c.in_ok-begun.ensures
    (changed law k begun.terms (first_pass F k begun.terms) hashed (next_stage begun) begun bs b₁ p₁.answers p₁.leaves)
    (changed law k hashed.terms (second_pass F k hashed.terms) enciphered (next_stage hashed) hashed b₁ b₂ p₂.answers p₂.leaves
    ∙ ap (λ s. on_blocks F s.m (second_pass F k s) b₁) e₁)
    (changed law k enciphered.terms (third_pass F k enciphered.terms) tt tt enciphered b₂ b₃ p₃.answers p₃.leaves
    ∙ ap (λ s. on_blocks F s.m (third_pass F k s) b₂) e₂) in
    record { answers = r.0; leaves = r.1 }
