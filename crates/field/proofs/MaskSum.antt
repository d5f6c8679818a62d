-- The mask coefficients add to zero, over any elements whose sum is commutative and associative, with each element its own
-- negative, and with an additive product by x.
use Rattle.std.proofs.Common.{◌≡◌, ℕ, zero, suc, ◌-◌, ◌*◌, ◌/◌, ◌%◌, List, [], ◌∷◌, ◌++◌, map, sym, refl, ap, ◌∙◌, arith}
use Rattle.field.specs.Mask.{times, singles, pairs, run, by_rest, coefficients, total}

module _ {E : Type 0} (add : E → E → E) (zer : E) (by_x : E → E)
    (assoc : (a b c : E) → add (add a b) c ≡ add a (add b c))
    (zero_l : (a : E) → add zer a ≡ a)
    (self : (a : E) → add a a ≡ zer)
    (linear : (a b : E) → by_x (add a b) ≡ add (by_x a) (by_x b)) where
  cancel : (a b : E) → add a (add a b) ≡ b
  cancel a b = sym (assoc a a b) ∙ ap (λ z. add z b) (self a) ∙ zero_l b

  total_append : (es bs : List E) → total add zer (es ++ bs) ≡ add (total add zer es) (total add zer bs)
  unfolding total
  total_append [] bs = sym (zero_l (total add zer bs))
  total_append (a ∷ es) bs = ap (add a) (total_append es bs) ∙ sym (assoc a (total add zer es) (total add zer bs))

  pub times_linear : (k : ℕ) (a b : E) → times by_x k (add a b) ≡ add (times by_x k a) (times by_x k b)
  unfolding times
  times_linear zero a b = refl
  times_linear (suc k) a b = ap by_x (times_linear k a b) ∙ linear (times by_x k a) (times by_x k b)

  times_zero : (k : ℕ) → times by_x k zer ≡ zer
  times_zero k = ap (times by_x k) (sym (self zer)) ∙ times_linear k zer zer ∙ self (times by_x k zer)

  total_map : (k : ℕ) (es : List E) → total add zer (map (times by_x k) es) ≡ times by_x k (total add zer es)
  unfolding total
  total_map k [] = sym (times_zero k)
  total_map k (a ∷ es) = ap (add (times by_x k a)) (total_map k es) ∙ sym (times_linear k a (total add zer es))

  paired : (t : ℕ) (a : E) → total add zer (singles by_x (2 * t) a) ≡ total add zer (pairs add by_x t a)
  unfolding total singles pairs
  paired zero a = refl
  paired (suc t) a =
      let e : 2 * suc t ≡ suc (suc (2 * t)) = omega arith in
      ap (λ k. total add zer (singles by_x k a)) e
      ∙ ap (λ z. add a (add (by_x a) z)) (paired t (by_x (by_x a)))
      ∙ sym (assoc a (by_x a) (total add zer (pairs add by_x t (by_x (by_x a)))))

  total_run : (one : E) (t : ℕ) → total add zer (run add by_x one t) ≡ zer
  unfolding run
  total_run one t =
      total_append (singles by_x (2 * t) (by_x one)) (pairs add by_x t (by_x one))
      ∙ ap (λ z. add z (total add zer (pairs add by_x t (by_x one)))) (paired t (by_x one))
      ∙ self (total add zer (pairs add by_x t (by_x one)))

  tail : (k t : ℕ) (one : E) → total add zer (map (times by_x k) (run add by_x one t)) ≡ zer
  tail k t one = total_map k (run add by_x one t) ∙ ap (times by_x k) (total_run one t) ∙ times_zero k

  by_rest_zero : (one : E) (t r : ℕ) → total add zer (by_rest add by_x one t r) ≡ zer
  unfolding by_rest total
  by_rest_zero one t zero = total_run one t
  by_rest_zero one t (suc zero) = simp (assoc, cancel) (tail 3 (t - 1) one)
  by_rest_zero one t (suc (suc r)) = simp (assoc, cancel) (tail 4 (t - 1) one)

  pub coefficients_zero : (one : E) (m : ℕ) → total add zer (coefficients add by_x one m) ≡ zer
  unfolding coefficients
  coefficients_zero one m = by_rest_zero one (m / 3) (m % 3)
