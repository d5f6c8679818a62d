-- The mask coefficients go over from one kind of element to another.
use Rattle.std.proofs.Common.{◌≡◌, ℕ, zero, suc, ◌-◌, ◌*◌, ◌/◌, ◌%◌, List, [], ◌∷◌, ◌++◌, map, refl, ap, ◌∙◌, ap₂}
use Rattle.field.specs.Mask.{times, singles, pairs, run, by_rest, coefficients, Differs, Apart}

differs_back : {E F : Type 0} (φ : E → F) (a : E) (l : List E) → Differs (φ a) (map φ l) → Differs a l
differs_back φ a [] d = tt
differs_back φ a (b ∷ l) d = (λ e. d.0 (ap φ e), differs_back φ a l d.1)

pub apart_back : {E F : Type 0} (φ : E → F) (l : List E) → Apart (map φ l) → Apart l
apart_back φ [] d = tt
apart_back φ (a ∷ l) d = (differs_back φ a l d.0, apart_back φ l d.1)

map_append : {E F : Type 0} (φ : E → F) (k l : List E) → map φ (k ++ l) ≡ map φ k ++ map φ l
map_append φ [] l = refl
map_append φ (a ∷ k) l = ap (λ t. φ a ∷ t) (map_append φ k l)

module _ {E F : Type 0} (φ : E → F) (add : E → E → E) (add' : F → F → F) (by_x : E → E) (by_x' : F → F)
    (φ_add : (a b : E) → φ (add a b) ≡ add' (φ a) (φ b)) (φ_x : (a : E) → φ (by_x a) ≡ by_x' (φ a)) where
  pub times_map : (k : ℕ) (a : E) → φ (times by_x k a) ≡ times by_x' k (φ a)
  unfolding times
  times_map zero a = refl
  times_map (suc k) a = φ_x (times by_x k a) ∙ ap by_x' (times_map k a)

  singles_map : (k : ℕ) (a : E) → map φ (singles by_x k a) ≡ singles by_x' k (φ a)
  unfolding singles
  singles_map zero a = refl
  singles_map (suc k) a = ap (λ t. φ a ∷ t) (singles_map k (by_x a) ∙ ap (singles by_x' k) (φ_x a))

  pairs_map : (k : ℕ) (a : E) → map φ (pairs add by_x k a) ≡ pairs add' by_x' k (φ a)
  unfolding pairs
  pairs_map zero a = refl
  pairs_map (suc k) a =
      ap₂ (λ s t. s ∷ t) (φ_add a (by_x a) ∙ ap (add' (φ a)) (φ_x a))
      (pairs_map k (by_x (by_x a)) ∙ ap (pairs add' by_x' k) (φ_x (by_x a) ∙ ap by_x' (φ_x a)))

  pub run_map : (one : E) (t : ℕ) → map φ (run add by_x one t) ≡ run add' by_x' (φ one) t
  unfolding run
  run_map one t =
      map_append φ (singles by_x (2 * t) (by_x one)) (pairs add by_x t (by_x one))
      ∙ ap₂ (λ k l. k ++ l) (singles_map (2 * t) (by_x one) ∙ ap (singles by_x' (2 * t)) (φ_x one)) (pairs_map t (by_x one) ∙ ap (pairs add' by_x' t) (φ_x one))

  shifted_map : (k : ℕ) (l : List E) → map φ (map (times by_x k) l) ≡ map (times by_x' k) (map φ l)
  shifted_map k [] = refl
  shifted_map k (a ∷ l) = ap₂ (λ s t. s ∷ t) (times_map k a) (shifted_map k l)

  two : (a b : E) (a' b' : F) → φ a ≡ a' → φ b ≡ b' → φ (add a b) ≡ add' a' b'
  two a b a' b' p q = φ_add a b ∙ ap₂ add' p q

  tail_map : (k t : ℕ) (one : E) → map φ (map (times by_x k) (run add by_x one t)) ≡ map (times by_x' k) (run add' by_x' (φ one) t)
  tail_map k t one = shifted_map k (run add by_x one t) ∙ ap (map (times by_x' k)) (run_map one t)

  by_rest_map : (one : E) (t r : ℕ) → map φ (by_rest add by_x one t r) ≡ by_rest add' by_x' (φ one) t r
  unfolding by_rest
  by_rest_map one t zero = run_map one t
  by_rest_map one t (suc zero) =
      ap₂ (λ s l. s ∷ l) (two one (by_x one) (φ one) (by_x' (φ one)) refl (φ_x one))
      (ap₂ (λ s l. s ∷ l) (two (by_x one) (times by_x 2 one) (by_x' (φ one)) (times by_x' 2 (φ one)) (φ_x one) (times_map 2 one))
      (ap₂ (λ s l. s ∷ l) (two (times by_x 2 one) (times by_x 3 one) (times by_x' 2 (φ one)) (times by_x' 3 (φ one)) (times_map 2 one) (times_map 3 one))
      (ap₂ (λ s l. s ∷ l) (two (times by_x 3 one) one (times by_x' 3 (φ one)) (φ one) (times_map 3 one) refl)
      (tail_map 3 (t - 1) one))))
  by_rest_map one t (suc (suc r)) =
      ap₂ (λ s l. s ∷ l) (two one (by_x one) (φ one) (by_x' (φ one)) refl (φ_x one))
      (ap₂ (λ s l. s ∷ l) (two (by_x one) (times by_x 2 one) (by_x' (φ one)) (times by_x' 2 (φ one)) (φ_x one) (times_map 2 one))
      (ap₂ (λ s l. s ∷ l) (two (times by_x 2 one) (times by_x 3 one) (times by_x' 2 (φ one)) (times by_x' 3 (φ one)) (times_map 2 one) (times_map 3 one))
      (ap₂ (λ s l. s ∷ l) (two (times by_x 3 one) (times by_x 4 one) (times by_x' 3 (φ one)) (times by_x' 4 (φ one)) (times_map 3 one) (times_map 4 one))
      (ap₂ (λ s l. s ∷ l) (two (times by_x 4 one) one (times by_x' 4 (φ one)) (φ one) (times_map 4 one) refl)
      (tail_map 4 (t - 1) one)))))

  pub coefficients_map : (one : E) (m : ℕ) → map φ (coefficients add by_x one m) ≡ coefficients add' by_x' (φ one) m
  unfolding coefficients
  coefficients_map one m = by_rest_map one (m / 3) (m % 3)
