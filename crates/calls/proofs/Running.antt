-- A list of calls, one more made.
use Rattle.std.proofs.Common.{◌≡◌, ℕ, zero, suc, ◌+◌, ◌<◌, List, [], ◌∷◌, ◌++◌, length, get_or, take, drop, set, sym, refl, ap, ◌∙◌, subst, append_assoc, arith}
use Rattle.sheet.specs.Sectors.{Sectors}
use Rattle.sheet.specs.Promise.{Call, Answer}
use Rattle.sheet.specs.Images.{answer_on, answers_on, final_image, AllGiven}
use Rattle.calls.specs.declared.step.Step.{Step}
use Rattle.calls.specs.Runs.{call_of, answered, Made, calls_of, answers_of, asked, all_asked}
use Rattle.std.proofs.lemmas.List.{drop_more, drop-set-lt, take_more_set}

answers_append : (xs ys : List Step) → answers_of (xs ++ ys) ≡ answers_of xs ++ answers_of ys
answers_append [] ys = refl
answers_append (x ∷ xs) ys = ap {B = List Answer} (λ r. answered (call_of x.call) x.outcome ∷ r) (answers_append xs ys)

pub asked_set : (xs : List Step) (i : ℕ) (d y : Step) → i < length xs → asked (call_of y.call) ≡ asked (call_of (get_or xs i d).call) → all_asked (set xs i y) ≡ all_asked xs
asked_set [] i d y l e = refl
asked_set (x ∷ xs) zero d y l e = ap (λ (a : Call). a ∷ all_asked xs) e
asked_set (x ∷ xs) (suc i) d y l e = ap {B = List Call} (λ r. asked (call_of x.call) ∷ r) (asked_set xs i d y (omega arith) e)

module _ {C : Type 0} (S : Sectors C) (ring : List C) (xs : List Step) (i : ℕ) (d y : Step) (im im' : List ℕ) (l : i < length xs) (made : Made S ring im (get_or xs i d).call y.outcome im' y.call) where
  left_same : drop (i + 1) (set xs i y) ≡ drop (i + 1) xs
  left_same = drop-set-lt (i + 1) xs i y (omega arith)

  here : drop i xs ≡ get_or xs i d ∷ drop (i + 1) xs
  here = drop_more xs i d l

  pub image_again : final_image S ring im' (calls_of (drop (i + 1) (set xs i y))) ≡ final_image S ring im (calls_of (drop i xs))
  image_again =
      ap (λ (t : List Step). final_image S ring im' (calls_of t)) left_same
      ∙ ap (λ (m : List ℕ). final_image S ring m (calls_of (drop (i + 1) xs))) made.image_is
      ∙ ap (λ (t : List Step). final_image S ring im (calls_of t)) (sym here)

  pub answers_again : answers_of (take (i + 1) (set xs i y)) ++ answers_on S ring im' (calls_of (drop (i + 1) (set xs i y))) ≡ answers_of (take i xs) ++ answers_on S ring im (calls_of (drop i xs))
  answers_again =
      ap (λ (t : List Step). answers_of t ++ answers_on S ring im' (calls_of (drop (i + 1) (set xs i y)))) (take_more_set xs i y l)
      ∙ ap (λ (t : List Answer). t ++ answers_on S ring im' (calls_of (drop (i + 1) (set xs i y)))) (answers_append (take i xs) (y ∷ []))
      ∙ append_assoc (answers_of (take i xs)) (answers_of (y ∷ [])) (answers_on S ring im' (calls_of (drop (i + 1) (set xs i y))))
      ∙ ap (λ (t : List Step). answers_of (take i xs) ++ (answered (call_of y.call) y.outcome ∷ answers_on S ring im' (calls_of t))) left_same
      ∙ ap (λ (t : Answer). answers_of (take i xs) ++ (t ∷ answers_on S ring im' (calls_of (drop (i + 1) xs)))) made.answer_is
      ∙ ap (λ (m : List ℕ). answers_of (take i xs) ++ (answer_on S ring im (call_of (get_or xs i d).call) ∷ answers_on S ring m (calls_of (drop (i + 1) xs)))) made.image_is
      ∙ ap (λ (t : List Step). answers_of (take i xs) ++ answers_on S ring im (calls_of t)) (sym here)

  pub given_again : AllGiven (calls_of (drop (i + 1) (set xs i y))) → AllGiven (calls_of (drop i xs))
  given_again h =
      subst (λ (t : List Step). AllGiven (calls_of t)) (sym here) (made.given, subst (λ (t : List Step). AllGiven (calls_of t)) left_same h)
