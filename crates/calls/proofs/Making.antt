-- One call of a list.
use Rattle.std.proofs.Common.{◌≡◌, ℕ, Bool, true, false, cond, List, ◌++◌, length, take, drop, is_ok, Result, refl, ap, ◌∙◌}
use Rattle.std.proofs.lemmas.List.{take_at}
use Rattle.fault.specs.declared.Fault.{Fault}
use Rattle.sheet.specs.Sectors.{Sectors}
use Rattle.sheet.specs.Promise.{Call, read, buffer_after}
use Rattle.sheet.specs.Images.{Given, image_view, answer_on, outcome_on, image_after, ReadsText}
use Rattle.calls.specs.declared.step.Call.{Call as CodeCall}
use Rattle.calls.specs.Runs.{call_of, answered, asked, Made}

cond_same : {A : Type 0} (b : Bool) (x : A) → x ≡ cond b x x
cond_same true x = refl
cond_same false x = refl

module _ {C : Type 0} (S : Sectors C) (ring : List C) (image : List ℕ) where
  pub made : (call call' : CodeCall) (r : Result (Unit {0}) Fault) (after : List ℕ) (a a' : Call) → call_of call ≡ a → call_of call' ≡ a' → Given a → answered a' r ≡ answer_on S ring image a → after ≡ image_after S ring image a → asked a' ≡ asked a → Made S ring image call r after call'
  made call call' r after a a' e f g h i j = record {
    given = rw e g;
    answer_is = rw (e, f) h;
    image_is = rw e i;
    unchanged = rw (e, f) j;
  }

  pub read_after : (s : ℕ) (b : List ℕ) → image ≡ image_after S ring image (read s b)
  read_after s b = cond_same (is_ok (outcome_on S ring image (read s b))) image

  pub read_answer : (s : ℕ) (b : List ℕ) (r : Result (Unit {0}) Fault) (after : List ℕ) → ReadsText S ring image s b r after → answered (read s after) r ≡ answer_on S ring image (read s b)
  read_answer s b r after g = ap (λ (x : List ℕ). answered (read s x) r) g.buffer_is ∙ ap (answered (read s (buffer_after S ring (image_view S ring image) (read s b)))) g.outcome

-- what a Vec holds once its slice came back
pub back_in : (n : ℕ) (b items : List ℕ) → length b ≡ n → take n (b ++ drop (length b) items) ≡ b
back_in n b items e = take_at b (drop (length b) items) n e
