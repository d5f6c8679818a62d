-- From the outcome of a part of a call to what the whole call results in.
use Rattle.std.proofs.Common.{◌≡◌, ℕ, suc, cond, List, ◌++◌, is_ok, IsErrAnd, Ok, Err, Result, sym, ap, ◌∙◌}
use Rattle.std.proofs.lemmas.Bool.{cond-true, cond-false}
use Rattle.std.proofs.lemmas.Result.{err_from_is_err_and}
use Rattle.fault.specs.declared.Fault.{Fault}
use Rattle.layout.specs.Checks.{Check, ruled, verdict}
use Rattle.layout.proofs.Verdicts.{Passed, ruled_err, ruled_on}
use Rattle.sheet.specs.Sectors.{Sectors}
use Rattle.sheet.specs.Promise.{Call, read, View, checks, sector_checks, Change, change}
use Rattle.sheet.specs.Images.{image_view, image_with, outcome_on, Acts, ReadsText}

module _ {C : Type 0} (S : Sectors C) (ring : List C) (image : List ℕ) where
  -- a part of the checks refuses, those before it passed
  pub outcome_refused : {A : Type 0} (call : Call) (before part after : List Check) (x : A) (f : Fault) → checks S ring (image_view S ring image) call ≡ before ++ (part ++ after) → Passed before → Err f ≡ ruled part x → outcome_on S ring image call ≡ Err f
  outcome_refused call before part after x f e p h = ap verdict e ∙ ruled_on before (part ++ after) tt p ∙ ruled_err part after x tt f (sym h)

  -- only the checks after that part are left
  pub outcome_left : (call : Call) (before part after : List Check) → checks S ring (image_view S ring image) call ≡ before ++ (part ++ after) → Passed before → Passed part → outcome_on S ring image call ≡ verdict after
  outcome_left call before part after e p q = ap verdict e ∙ ruled_on before (part ++ after) tt p ∙ ruled_on part after tt q

  pub refused : (call : Call) (f : Fault) → outcome_on S ring image call ≡ Err f → Acts S ring image call (Err f) image
  refused call f e = record {
    outcome = sym e;
    image_is = sym (cond-false (is_ok (outcome_on S ring image call)) _ _ (ap is_ok e));
  }

  pub done : (call : Call) (after : List ℕ) → outcome_on S ring image call ≡ Ok tt → after ≡ image_with S ring image (change (image_view S ring image) call) → Acts S ring image call (Ok tt) after
  done call after e h = record {
    outcome = sym e;
    image_is = h ∙ sym (cond-true (is_ok (outcome_on S ring image call)) _ _ (ap is_ok e));
  }

  -- the `?` exit of a call: a part of its checks refused, those before it passed
  pub acts_refused : {A : Type 0} (call : Call) (before part after : List Check) (x : A) (f : Fault) (r : Result (Unit {0}) Fault) → checks S ring (image_view S ring image) call ≡ before ++ (part ++ after) → Passed before → Err f ≡ ruled part x → IsErrAnd r (λ y. y ≡ f) → Acts S ring image call r image
  acts_refused call before part after x f r e p h q =
      let y = err_from_is_err_and r q in
      rw (y.1, y.2) (refused call f (outcome_refused call before part after x f e p h))

  -- the `?` exit of a read
  pub reads_refused : {A : Type 0} (s : ℕ) (b : List ℕ) (before part after : List Check) (x : A) (f : Fault) (r : Result (Unit {0}) Fault) → checks S ring (image_view S ring image) (read s b) ≡ before ++ (part ++ after) → Passed before → Err f ≡ ruled part x → IsErrAnd r (λ y. y ≡ f) → ReadsText S ring image s b r b
  reads_refused s b before part after x f r e p h q =
      let y = err_from_is_err_and r q in
      let o = outcome_refused (read s b) before part after x f e p h in
      rw (y.1, y.2)
      (record {
        outcome = sym o;
        buffer_is = sym (cond-false (is_ok (outcome_on S ring image (read s b))) _ _ (ap is_ok o));
      })

  -- the last part of a call decides it: its outcome is the call's, and it left the image so
  pub acts_last : (call : Call) (ch : Change) (last : List Check) (r : Result (Unit {0}) Fault) (after : List ℕ) → outcome_on S ring image call ≡ verdict last → ch ≡ change (image_view S ring image) call → r ≡ verdict last → after ≡ cond (is_ok r) (image_with S ring image ch) image → Acts S ring image call r after
  acts_last call ch last r after e c h k = record {
    outcome = h ∙ sym e;
    image_is = k ∙ ap (λ (x : Result (Unit {0}) Fault). cond (is_ok x) (image_with S ring image ch) image) (h ∙ sym e) ∙ ap (λ (x : Change). cond (is_ok (outcome_on S ring image call)) (image_with S ring image x) image) c;
  }

  -- open, sector by sector
  pub sector_on : (v : View) (s n : ℕ) → Passed (sector_checks S ring v s 1) → verdict (sector_checks S ring v s (suc n)) ≡ verdict (sector_checks S ring v (suc s) n)
  sector_on v s n p = ruled_on (sector_checks S ring v s 1) (sector_checks S ring v (suc s) n) tt p

  pub sector_refused : (v : View) (s n : ℕ) (f : Fault) → Err f ≡ verdict (sector_checks S ring v s 1) → verdict (sector_checks S ring v s (suc n)) ≡ Err f
  sector_refused v s n f e = ruled_err (sector_checks S ring v s 1) (sector_checks S ring v (suc s) n) tt tt f (sym e)
