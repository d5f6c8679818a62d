-- A map with an inverse permutes.
use Rattle.std.proofs.Common.{◌≡◌, sym, ap, ◌∙◌}
use Rattle.cipher.specs.Permutes.{Permutes}

pub permuting : {K : Type 0} (f g : K → K) → ((b : K) → g (f b) ≡ b) → ((b : K) → f (g b) ≡ b) → Permutes f
permuting f g back forth = record { apart = λ a b e. sym (back a) ∙ ap g e ∙ back b; reaches = λ b. (g b, forth b) }
