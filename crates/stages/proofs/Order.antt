-- The passes in order end in the sealing.
use Rattle.std.proofs.Common.{◌≡◌, ℕ, ◌*◌, ◌/◌, Bool, true, false, cond, eqb, List, length, Ok, Err, ap, ◌∙◌, arith}
use Rattle.kind.specs.Laws.{Ops, Laws}
use Rattle.kind.specs.Blocks.{blocks, flat}
use Rattle.passes.specs.declared.terms.Terms.{Terms}
use Rattle.passes.specs.Rows.{on_blocks}
use Rattle.passes.proofs.Walked.{then_on}
use Rattle.sealing.specs.Mode.{Maps, begun, sealed, sealing, answer, left, first_pass, second_pass, third_pass}
use Rattle.sealing.proofs.Agree.{length_first, length_second, passes_seal}
use Rattle.sealing.proofs.Checks.{outcome_ok}
use Rattle.stages.specs.declared.Stage.{Stage}
use Rattle.stages.specs.declared.Refused.{Refused}
use Rattle.stages.specs.Stages.{beginning, next_or_back, after_pass}

-- a pass that was accepted
record Passed {N : Type 0} (h n : N) (new changed : List ℕ) : Type 0 where
  stage : h ≡ n
  buffer : new ≡ changed

passed_by : {S N : Type 0} (b : Bool) (h n : N) (e : Refused S) (new changed old : List ℕ) → Ok h ≡ cond b (Ok n) (Err e) → new ≡ cond b changed old → Passed h n new changed
passed_by true h n e new changed old p q = record { stage = cc; buffer = q }
passed_by false h n e new changed old p q = let z : ◌≡◌ {A = ℕ} 0 1 = cc in absurd (omega arith)

module _ {K : Type 0} {F : Ops K} (law : Laws F) (c : Maps K) where
  passed : {S N : Type 0} (s : Terms K) (pass : List K → List K) (h n : N) (stage : S) (old new : List ℕ)
      → Ok h ≡ next_or_back F s (length old) n stage → new ≡ after_pass F s pass old → Passed h n new (on_blocks F s.m pass old)
  passed s pass h n stage old new p q =
      passed_by (eqb (length old) (s.m * F.size)) h n _ new (on_blocks F s.m pass old) old p q

  -- the terms of a stage after an accepted pass are those before it
  pub same_terms : {S N : Type 0} (s : Terms K) (terms : N → Terms K) (pass : List K → List K) (h n : N) (stage : S) (old new : List ℕ)
      → Ok h ≡ next_or_back F s (length old) n stage → new ≡ after_pass F s pass old → terms h ≡ terms n
  same_terms s terms pass h n stage old new p q = ap terms (passed s pass h n stage old new p q).stage

  pub changed : {S N : Type 0} (s : Terms K) (pass : List K → List K) (h n : N) (stage : S) (old new : List ℕ)
      → Ok h ≡ next_or_back F s (length old) n stage → new ≡ after_pass F s pass old → new ≡ on_blocks F s.m pass old
  changed s pass h n stage old new p q = (passed s pass h n stage old new p q).buffer

  pub in_order : (T bs : List ℕ) (b : Stage K 0) (b₁ b₂ b₃ : List ℕ) → Ok b ≡ beginning F c T (length bs)
      → b₁ ≡ on_blocks F b.terms.m (first_pass F c b.terms) bs
      → b₂ ≡ on_blocks F b.terms.m (second_pass F c b.terms) b₁
      → b₃ ≡ on_blocks F b.terms.m (third_pass F c b.terms) b₂
      → (Ok tt ≡ answer (sealing F c T bs)) × (b₃ ≡ left (sealing F c T bs) bs)
  in_order T bs b b₁ b₂ b₃ e p₁ p₂ p₃ =
      let s : Terms K = b.terms in
      let two : b₂ ≡ on_blocks F s.m (λ ks. second_pass F c s (first_pass F c s ks)) bs =
      then_on law s.m (first_pass F c s) (second_pass F c s) bs b₁ b₂ (length_first law c s) p₁ p₂ in
      let three : b₃ ≡ on_blocks F s.m (sealed F c s) bs =
      then_on law s.m (λ ks. second_pass F c s (first_pass F c s ks)) (third_pass F c s) bs b₂ b₃ (λ ks. length_second law c s _ ∙ length_first law c s ks) two p₃
      ∙ ap (flat F) (passes_seal law c s (blocks F s.m bs)) in
      outcome_ok F (length T) (length bs) (F.inverse (c.E (F.block T))) (λ L. record { terms = begun F c (F.block T) (length bs / F.size) })
      (λ stage. on_blocks F stage.terms.m (sealed F c stage.terms) bs) b bs b₃ e three
