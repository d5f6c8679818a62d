-- The checks, whatever they end in.
use Rattle.std.proofs.Common.{◌≡◌, ℕ, ◌/◌, ◌%◌, Bool, true, false, cond, eqb, leb, List, Some, None, Ok, Err, Option, Result, sym, refl, ap, ◌∙◌}
use Rattle.fault.specs.declared.SealFault.TheVariants.{TweakLength, NotWholeBlocks, TooManyBlocks}
use Rattle.kind.specs.Laws.{Ops}
use Rattle.sealing.specs.Mode.{checked, with_inverse, answer, left}

abbrev pub map_ok : {A B E : Type 0} → (A → B) → Result A E → Result B E
map_ok h (Ok a) = Ok (h a)
map_ok h (Err e) = Err e

module _ {K : Type 0} (F : Ops K) {A B : Type 0} (h : A → B) where
  by : (b₁ b₂ b₃ b₄ b₅ : Bool) (o : Option K) (f : K → A)
      → cond b₁ (cond b₂ (Err NotWholeBlocks) (cond b₃ (cond b₄ (cond b₅ (Ok (h (f F.zero))) (with_inverse F o (λ L. h (f L)))) (Err TooManyBlocks)) (Err NotWholeBlocks))) (Err TweakLength)
      ≡ map_ok h (cond b₁ (cond b₂ (Err NotWholeBlocks) (cond b₃ (cond b₄ (cond b₅ (Ok (f F.zero)) (with_inverse F o f)) (Err TooManyBlocks)) (Err NotWholeBlocks))) (Err TweakLength))
  by false b₂ b₃ b₄ b₅ o f = refl
  by true true b₃ b₄ b₅ o f = refl
  by true false false b₄ b₅ o f = refl
  by true false true false b₅ o f = refl
  by true false true true true o f = refl
  by true false true true false None f = refl
  by true false true true false (Some L) f = refl

  pub checked_map : (t len : ℕ) (o : Option K) (f : K → A) → checked F t len o (λ L. h (f L)) ≡ map_ok h (checked F t len o f)
  checked_map t len o f = by (eqb t F.size) (eqb len 0) (eqb (len % F.size) 0) (leb (len / F.size) 64) (leb (len / F.size) 1) o f

pub outcome_ok : {K A : Type 0} (F : Ops K) (t len : ℕ) (o : Option K) (f : K → A) (h : A → List ℕ) (p : A) (old new : List ℕ)
    → Ok p ≡ checked F t len o f → new ≡ h p
    → (Ok tt ≡ answer (checked F t len o (λ L. h (f L)))) × (new ≡ left (checked F t len o (λ L. h (f L))) old)
outcome_ok F t len o f h p old new e q =
    let s : checked F t len o (λ L. h (f L)) ≡ Ok (h p) = checked_map F h t len o f ∙ ap (map_ok h) (sym e) in
    (ap answer (sym s), q ∙ ap (λ r. left r old) (sym s))
