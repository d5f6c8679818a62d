-- The tests of the code and of the definition agree.
use Rattle.std.proofs.Common.{◌≡◌, ℕ, ◌<◌, ◌≤◌, cond, ltb, leb, get_or, Some, None, Option, sym, refl, ap, ◌∙◌, subst, arith, lt-ltb, le-leb, MatchOption}
use native.Mathlib.Decide.{dec_lt}
use Rattle.std.proofs.lemmas.Bool.Decides.{nat_tests}
use Rattle.kind.specs.Laws.{Ops, mask_coefficients, most_blocks}
use Rattle.std.proofs.lemmas.List.{get_or-map}
use Rattle.field.specs.Degree.{Degree}
use Rattle.field.specs.Mask.{written}
use Rattle.field.proofs.Laws.{count}
use Rattle.arithmetic.specs.Facts.{Modulus, Numbers}
use Rattle.kind.specs.Polynomials.{poly_ops}
use Rattle.kind.specs.PolynomialsLemmas.{v_coefficients}
use Rattle.coefficient.specs.Coefficients.{mask_coefficient, IsPlace, CoefficientDegree}

module _ {K : Type 0} (o : Ops K) (m i : ℕ) where
  pub inside : (k : K) → 3 ≤ m → m ≤ most_blocks → i < m → k ≡ get_or (mask_coefficients o m) i o.zero → Some k ≡ mask_coefficient o m i
  unfolding mask_coefficient
  inside k lo hi lt e =
      let s : Option K = Some (get_or (mask_coefficients o m) i o.zero) in
      ap Some e ∙ sym (
      ap (λ t. cond t (cond (leb m most_blocks) (cond (ltb i m) s None) None) None) (le-leb 3 m lo)
      ∙ ap (λ t. cond t (cond (ltb i m) s None) None) (le-leb m most_blocks hi)
      ∙ ap (λ t. cond t s None) (lt-ltb i m lt))

  pub few : m < 3 → None ≡ mask_coefficient o m i
  unfolding mask_coefficient
  few h = grind (arith, nat_tests)

  pub many : most_blocks < m → None ≡ mask_coefficient o m i
  unfolding mask_coefficient
  many h = grind (arith, nat_tests)

  pub past : m ≤ i → None ≡ mask_coefficient o m i
  unfolding mask_coefficient
  past h = grind (arith, nat_tests)

  -- a place that the definition has, and the coefficient there
  pub found : (k : K) → Some k ≡ mask_coefficient o m i → IsPlace m i
  found k e =
      elim (dec_lt m 3) [
        | yes l ↦ absurd (clash (few l))
        | no a ↦ elim (dec_lt most_blocks m) [
          | yes l ↦ absurd (clash (many l))
          | no b ↦ elim (dec_lt i m) [ yes l ↦ (omega arith, omega arith, l) | no d ↦ absurd (clash (past (omega arith))) ]
        ]
      ]
    where
      clash : None ≡ mask_coefficient o m i → ⊥
      clash p = let z : ◌≡◌ {A = ℕ} 0 1 = cc in omega arith

  pub missing : None ≡ mask_coefficient o m i → IsPlace m i → ⊥
  missing e p = let q = inside (get_or (mask_coefficients o m) i o.zero) p.0 p.1 p.2 refl in let z : ◌≡◌ {A = ℕ} 0 1 = cc in omega arith

  pub same : (k : K) → Some k ≡ mask_coefficient o m i → k ≡ get_or (mask_coefficients o m) i o.zero
  same k e = let p = found k e in let q = inside (get_or (mask_coefficients o m) i o.zero) p.0 p.1 p.2 refl in cc

-- the degree of a coefficient in a polynomial kind
module _ {E : Type 0} (n f : ℕ) (value : E → ℕ) (u : Modulus n f) (e : Numbers n value) (m i : ℕ) where
  value_at : (k : E) → Some k ≡ mask_coefficient (poly_ops n f value e) m i → value k ≡ get_or (written m) i 0
  value_at k q =
      let o = poly_ops n f value e in
      let p = found o m i k q in
      ap value (same o m i k q)
      ∙ sym (get_or-map value (mask_coefficients o m) i o.zero 0 (omega (arith, count o.add (o.mul o.x) o.one m p.0, p.2)))
      ∙ ap (λ l. get_or l i 0) (v_coefficients n f value u e m ∙ u.masks.unreduced m p.0 p.1)

  pub coefficient_degree : (k : E) (r : Option ℕ) → Some k ≡ mask_coefficient (poly_ops n f value e) m i → MatchOption r (value k ≡ 0) (Degree (value k)) → CoefficientDegree n m i r
  coefficient_degree k None q c =
      let p = found (poly_ops n f value e) m i k q in
      absurd (u.masks.nonzero m i p.0 p.1 p.2 (sym (value_at k q) ∙ c))
  coefficient_degree k (Some d) q c =
      let p = found (poly_ops n f value e) m i k q in
      let g : Degree (get_or (written m) i 0) d = subst (λ (v : ℕ). Degree v d) (value_at k q) c in
      (p, g, u.masks.degrees m i d p.0 p.1 g)
