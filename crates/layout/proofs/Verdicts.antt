-- Lists of checks: when one refuses, when all pass, and lists in two parts.
use Rattle.std.proofs.Common.{◌≡◌, ℕ, true, false, List, [], ◌∷◌, ◌++◌, is_ok, Ok, Err, sym, refl, ap, ◌∙◌, ⊎_elim, arith}
use Rattle.std.proofs.lemmas.Bool.{cases_Bool, cond-true, cond-false}
use Rattle.fault.specs.declared.Fault.{Fault}
use Rattle.layout.specs.Checks.{Check, verdict, ruled}

-- equal checks in turn, each only where those before it pass
abbrev pub Same : List Check → List Check → Type 0
Same [] [] = Unit {0}
Same [] (d ∷ ds) = ⊥
Same (c ∷ cs) [] = ⊥
Same (c ∷ cs) (d ∷ ds) = (c.fails ≡ d.fails) × (c.fault ≡ d.fault) × (d.fails ≡ false → Same cs ds)

pub same_verdict : (cs ds : List Check) → Same cs ds → verdict cs ≡ verdict ds
same_verdict [] [] h = refl
same_verdict [] (d ∷ ds) h = absurd h
same_verdict (c ∷ cs) [] h = absurd h
same_verdict (c ∷ cs) (d ∷ ds) h =
    ⊎_elim
    (λ (t : d.fails ≡ true). cond-true c.fails _ _ (h.0 ∙ t) ∙ ap Err h.1 ∙ sym (cond-true d.fails _ _ t))
    (λ (f : d.fails ≡ false). cond-false c.fails _ _ (h.0 ∙ f) ∙ same_verdict cs ds (h.2 f) ∙ sym (cond-false d.fails _ _ f))
    (cases_Bool d.fails)

-- no check refuses
abbrev pub Passed : List Check → Type 0
Passed [] = Unit {0}
Passed (c ∷ cs) = (c.fails ≡ false) × Passed cs

pub accepted : (cs : List Check) → is_ok (verdict cs) ≡ true → Passed cs
accepted [] h = tt
accepted (c ∷ cs) h =
    ⊎_elim
    (λ (t : c.fails ≡ true). let n = rw t at h in let z : ◌≡◌ {A = ℕ} 0 1 = cc in absurd (omega arith))
    (λ (f : c.fails ≡ false). (f, accepted cs (rw f at h)))
    (cases_Bool c.fails)

pub accepts : (cs : List Check) → Passed cs → is_ok (verdict cs) ≡ true
accepts [] h = refl
accepts (c ∷ cs) h = rw h.0 (accepts cs h.1)

-- what a front part of the checks has ruled
pub ruled_err : {A B : Type 0} (cs ds : List Check) (x : A) (y : B) (f : Fault) → ruled cs x ≡ Err f → ruled (cs ++ ds) y ≡ Err f
ruled_err [] ds x y f h = let z : ◌≡◌ {A = ℕ} 0 1 = cc in absurd (omega arith)
ruled_err (c ∷ cs) ds x y f h =
    ⊎_elim
    (λ (t : c.fails ≡ true). let e = rw t at h in rw t (let g : c.fault ≡ f = cc in ap Err g))
    (λ (n : c.fails ≡ false). rw n (ruled_err cs ds x y f (rw n at h)))
    (cases_Bool c.fails)

pub ruled_ok : {A : Type 0} (cs : List Check) (x y : A) → ruled cs x ≡ Ok y → Passed cs × (y ≡ x)
ruled_ok [] x y h = (tt, cc)
ruled_ok (c ∷ cs) x y h =
    ⊎_elim
    (λ (t : c.fails ≡ true). let e = rw t at h in let z : ◌≡◌ {A = ℕ} 0 1 = cc in absurd (omega arith))
    (λ (n : c.fails ≡ false). let r = ruled_ok cs x y (rw n at h) in ((n, r.0), r.1))
    (cases_Bool c.fails)

pub ruled_on : {A : Type 0} (cs ds : List Check) (x : A) → Passed cs → ruled (cs ++ ds) x ≡ ruled ds x
ruled_on [] ds x h = refl
ruled_on (c ∷ cs) ds x h = rw h.0 (ruled_on cs ds x h.1)

pub ruled_all : {A : Type 0} (cs : List Check) (x : A) → Passed cs → ruled cs x ≡ Ok x
ruled_all [] x h = refl
ruled_all (c ∷ cs) x h = rw h.0 (ruled_all cs x h.1)
