-- By the scheme, unsealing undoes sealing and sealing undoes unsealing, at every number of blocks.
use Rattle.std.proofs.Common.{◌≡◌, ℕ, suc, List, [], ◌∷◌, length, get_or, sym, refl, ap, ◌∙◌, arith}
use Rattle.passes.specs.declared.terms.Terms.{Terms}
use Rattle.kind.specs.Laws.{Ops, Laws}
use Rattle.passes.specs.Rows.{sum, each}
use Rattle.passes.specs.Scheme.{mask, sealed, unsealed}
use Rattle.kind.specs.Laws.{mask_coefficients}
use Rattle.passes.proofs.Coefficients.{length_coefficients, sum_coefficients}
use Rattle.passes.proofs.Algebra.{each_suc, add_back, zero_add, zero_mul, distrib_right, swap_middle, one_mul, passes_undone, Adds}

module _ {K : Type 0} {F : Ops K} (law : Laws F) where
  open F use {add as ◌⊕◌, mul as ◌·◌, zero, one, x}

  infixl 60 ◌⊕◌
  infixl 70 ◌·◌
  -- the two masks of two blocks
  pub two_adds : (R EN EEN g : K) → Adds law (mask F (record { r = R; en = EN; een = EEN; m = 2 }) g) 2 (EN ⊕ EEN)
  two_adds R EN EEN g M [] e = absurd (omega arith)
  two_adds R EN EEN g M (a ∷ []) e = absurd (omega arith)
  two_adds R EN EEN g M (a ∷ b ∷ []) e =
      ap (λ t. M ⊕ EN ⊕ t) (law.add_zero _) ∙ swap_middle law M (EN) M (EEN) ∙ ap (λ t. t ⊕ (EN ⊕ EEN)) (law.add_self M) ∙ zero_add law _
  two_adds R EN EEN g M (a ∷ b ∷ c ∷ bs) e = absurd (omega arith)

  many_sum : (p : List K) (M : K) (bs : List K) → length bs ≡ length p → sum F (each (λ i b. get_or p i zero · M) 0 bs) ≡ sum F p · M
  many_sum [] M [] e = sym (zero_mul law M)
  many_sum [] M (b ∷ bs) e = absurd (omega arith)
  many_sum (a ∷ p) M [] e = absurd (omega arith)
  many_sum (a ∷ p) M (b ∷ bs) e =
      ap (λ t. a · M ⊕ sum F t) (each_suc (λ i b. get_or (a ∷ p) i zero · M) 0 bs)
      ∙ ap (λ t. a · M ⊕ t) (many_sum p M bs (omega arith)) ∙ sym (distrib_right law a (sum F p) M)

  pub many_adds : (p : List K) → sum F p ≡ zero → Adds law (λ M i. get_or p i zero · M) (length p) zero
  many_adds p z M bs e = many_sum p M bs e ∙ ap (λ t. t · M) z ∙ zero_mul law M

  many_adds_at : (R EN EEN g : K) (k : ℕ) → Adds law (mask F (record { r = R; en = EN; een = EEN; m = suc (suc (suc k)) }) g) (suc (suc (suc k))) zero
  many_adds_at R EN EEN g k M bs e =
      let m : ℕ = suc (suc (suc k)) in
      many_adds (mask_coefficients F m) (sum_coefficients law m) M bs (e ∙ sym (length_coefficients law m (omega arith)))

  -- what the round trip asks: at one block nothing, and above that L is the inverse of R
  abbrev pub Ready : ℕ → K → K → Type 0
  Ready ℕ.zero R L = Unit {0}
  Ready (suc ℕ.zero) R L = Unit {0}
  Ready (suc (suc k)) R L = L · R ≡ one

  module _ (E D : K → K) (DE : (b : K) → D (E b) ≡ b) (ED : (b : K) → E (D b) ≡ b) (R EN EEN L : K) where
    abbrev at : ℕ → Terms K
    at m = record { r = R; en = EN; een = EEN; m = m }

    -- EEN is EN ⊕ (EN ⊕ EEN), and EN is EEN ⊕ (EN ⊕ EEN)
    end_to : EEN ≡ EN ⊕ (EN ⊕ EEN)
    end_to = sym (sym (law.add_assoc EN EN EEN) ∙ ap (λ t. t ⊕ EEN) (law.add_self EN) ∙ zero_add law EEN)

    end_back : EN ≡ EEN ⊕ (EN ⊕ EEN)
    end_back = sym (law.add_comm EEN (EN ⊕ EEN) ∙ add_back law EN EEN)

    pub unsealed_sealed : (m : ℕ) → Ready m R L → (bs : List K) → length bs ≡ m → unsealed F E D (at m) L (sealed F E D (at m) bs) ≡ bs
    unsealed_sealed ℕ.zero q [] lm = refl
    unsealed_sealed ℕ.zero q (b ∷ bs) lm = absurd (omega arith)
    unsealed_sealed (suc ℕ.zero) q [] lm = absurd (omega arith)
    unsealed_sealed (suc ℕ.zero) q (b ∷ []) lm = ap (λ t. t ∷ []) (simp (add_back law, DE, one_mul law))
    unsealed_sealed (suc ℕ.zero) q (b ∷ a ∷ bs) lm = absurd (omega arith)
    unsealed_sealed (suc (suc ℕ.zero)) lr bs lm =
        passes_undone law E E D DE R L lr (mask F (at 2) EN) 2 (EN ⊕ EEN) (two_adds R EN EEN EN) EN EEN EN EEN end_to end_to bs lm
    unsealed_sealed (suc (suc (suc k))) lr bs lm =
        passes_undone law E E D DE R L lr (mask F (at (suc (suc (suc k)))) EN) (suc (suc (suc k))) zero (many_adds_at R EN EEN EN k) EN EN EEN EEN (sym (law.add_zero EN)) (sym (law.add_zero EEN)) bs lm

    pub sealed_unsealed : (m : ℕ) → Ready m R L → (bs : List K) → length bs ≡ m → sealed F E D (at m) (unsealed F E D (at m) L bs) ≡ bs
    sealed_unsealed ℕ.zero q [] lm = refl
    sealed_unsealed ℕ.zero q (b ∷ bs) lm = absurd (omega arith)
    sealed_unsealed (suc ℕ.zero) q [] lm = absurd (omega arith)
    sealed_unsealed (suc ℕ.zero) q (b ∷ []) lm = ap (λ t. t ∷ []) (simp (one_mul law, add_back law, ED))
    sealed_unsealed (suc ℕ.zero) q (b ∷ a ∷ bs) lm = absurd (omega arith)
    sealed_unsealed (suc (suc ℕ.zero)) lr bs lm =
        passes_undone law E D E ED L R (law.mul_comm R L ∙ lr) (mask F (at 2) EN) 2 (EN ⊕ EEN) (two_adds R EN EEN EN) EEN EN EEN EN end_back end_back bs lm
    sealed_unsealed (suc (suc (suc k))) lr bs lm =
        passes_undone law E D E ED L R (law.mul_comm R L ∙ lr) (mask F (at (suc (suc (suc k)))) EN) (suc (suc (suc k))) zero (many_adds_at R EN EEN EN k) EEN EEN EN EN (sym (law.add_zero EEN)) (sym (law.add_zero EN)) bs lm
