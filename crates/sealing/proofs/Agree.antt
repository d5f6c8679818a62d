-- The rules of the mode agree with the scheme that the code follows, at every number of blocks.
use Rattle.std.proofs.Common.{◌≡◌, ℕ, suc, List, [], ◌∷◌, map, length, sym, refl, ap, ◌∙◌, ap₂}
use Rattle.kind.specs.Laws.{Ops, Laws}
use Rattle.passes.specs.declared.terms.Terms.{Terms}
use Rattle.passes.specs.Rows.{each}
use Rattle.passes.specs.Scheme as scheme
use Rattle.passes.specs.Scheme.{times_power, with_mask, mask, times_powers, masked, value}
use Rattle.passes.proofs.Algebra.{each_each, length_each, one_mul}
use Rattle.sealing.specs.Mode.{Maps, sealed, unsealed, first_pass, second_pass, third_pass}

map_each : {A B C : Type 0} (g : B → C) (f : ℕ → A → B) (i : ℕ) (bs : List A) → map g (each f i bs) ≡ each (λ j b. g (f j b)) i bs
map_each g f i [] = refl
map_each g f i (b ∷ bs) = ap (λ t. g (f i b) ∷ t) (map_each g f (suc i) bs)

module _ {K : Type 0} {F : Ops K} (law : Laws F) (c : Maps K) where
  open F use {add as ◌⊕◌, mul as ◌·◌, x}
  open c use {E, D}

  infixl 60 ◌⊕◌
  infixl 70 ◌·◌
  -- at one block the power of R is one, at two it is R
  first_power : (a b : K) → (a · F.one) · b ≡ a · b
  first_power a b = ap (λ t. t · b) (law.mul_one a)

  module _ (R EN EEN : K) where
    abbrev at : ℕ → Terms K
    at m = record { r = R; en = EN; een = EEN; m = m }

    first_at : (bs : List K) → scheme.hashed F E D (at (length bs)) bs ≡ first_pass F c (at (length bs)) bs
    unfolding first_pass
    first_at [] = refl
    first_at (P₁ ∷ []) = ap (λ t. t ∷ []) (one_mul law P₁)
    first_at (P₁ ∷ P₂ ∷ []) = ap₂ (λ t u. t ∷ u ∷ []) (one_mul law P₁) (first_power R P₂)
    first_at (P₁ ∷ P₂ ∷ P₃ ∷ bs) = refl

    second_at : (bs : List K) → scheme.enciphered F E D (at (length bs)) bs ≡ second_pass F c (at (length bs)) bs
    unfolding second_pass
    second_at [] = refl
    second_at (b ∷ []) = refl
    second_at (a ∷ b ∷ []) = simp (with_mask, law.add_zero, law.add_assoc)
    second_at (a₁ ∷ a₂ ∷ a₃ ∷ rest) =
        let PP : List K = a₁ ∷ a₂ ∷ a₃ ∷ rest in
        map_each E (with_mask F (mask F (at (length PP)) EN (value F E EN PP))) 0 PP

    third_at : (bs : List K) → scheme.finished F E D (at (length bs)) bs ≡ third_pass F c (at (length bs)) bs
    unfolding third_pass
    third_at [] = refl
    third_at (b ∷ []) = ap (λ t. t ∷ []) (one_mul law (b ⊕ x · EEN))
    third_at (a ∷ b ∷ []) = simp (times_power, with_mask, one_mul law, law.mul_one, law.add_zero, law.add_assoc)
    third_at (a₁ ∷ a₂ ∷ a₃ ∷ rest) =
        let CCC : List K = a₁ ∷ a₂ ∷ a₃ ∷ rest in
        each_each (times_power F R) (with_mask F (mask F (at (length CCC)) (x · EEN) (value F E EEN CCC))) 0 CCC

    -- the passes in order are the sealing
    passes_seal_at : (m : ℕ) (bs : List K) → third_pass F c (at m) (second_pass F c (at m) (first_pass F c (at m) bs)) ≡ sealed F c (at m) bs
    unfolding first_pass second_pass third_pass sealed
    passes_seal_at m [] = refl
    passes_seal_at m (P₁ ∷ []) = refl
    passes_seal_at m (P₁ ∷ P₂ ∷ []) = refl
    passes_seal_at m (P₁ ∷ P₂ ∷ P₃ ∷ bs) = refl

    unsealed_at : (L : K) (bs : List K) → scheme.unsealed F E D (at (length bs)) L bs ≡ unsealed F c (at (length bs)) L bs
    unfolding unsealed
    unsealed_at L [] = refl
    unsealed_at L (C₁ ∷ []) = simp (times_power, with_mask, one_mul law)
    unsealed_at L (C₁ ∷ C₂ ∷ []) = simp (times_power, with_mask, one_mul law, law.mul_one, law.add_zero, law.add_assoc)
    unsealed_at L (C₁ ∷ C₂ ∷ C₃ ∷ bs) =
        let m : ℕ = length (C₁ ∷ C₂ ∷ C₃ ∷ bs) in
        let CC : List K = times_powers F L (C₁ ∷ C₂ ∷ C₃ ∷ bs) in
        let mask-2 : ℕ → K → K = with_mask F (mask F (at m) (x · EEN) (value F E EEN CC)) in
        let PPP : List K = each (λ i b. D (mask-2 i b)) 0 CC in
        ap (λ z. times_powers F L (masked F E (mask F (at m) EN) EN z)) (map_each D mask-2 0 CC)
        ∙ each_each (times_power F L) (with_mask F (mask F (at m) EN (value F E EN PPP))) 0 PPP

  module _ (s : Terms K) (bs : List K) (l : length bs ≡ s.m) where
    pub first_agrees : scheme.hashed F E D s bs ≡ first_pass F c s bs
    first_agrees =
        ap (λ m. scheme.hashed F E D (at s.r s.en s.een m) bs) (sym l) ∙ first_at s.r s.en s.een bs
        ∙ ap (λ m. first_pass F c (at s.r s.en s.een m) bs) l

    pub second_agrees : scheme.enciphered F E D s bs ≡ second_pass F c s bs
    second_agrees =
        ap (λ m. scheme.enciphered F E D (at s.r s.en s.een m) bs) (sym l) ∙ second_at s.r s.en s.een bs
        ∙ ap (λ m. second_pass F c (at s.r s.en s.een m) bs) l

    pub third_agrees : scheme.finished F E D s bs ≡ third_pass F c s bs
    third_agrees =
        ap (λ m. scheme.finished F E D (at s.r s.en s.een m) bs) (sym l) ∙ third_at s.r s.en s.een bs
        ∙ ap (λ m. third_pass F c (at s.r s.en s.een m) bs) l

    pub unsealed_agrees : (L : K) → scheme.unsealed F E D s L bs ≡ unsealed F c s L bs
    unsealed_agrees L =
        ap (λ m. scheme.unsealed F E D (at s.r s.en s.een m) L bs) (sym l) ∙ unsealed_at s.r s.en s.een L bs
        ∙ ap (λ m. unsealed F c (at s.r s.en s.een m) L bs) l

  -- each keeps the number of blocks
  pub length_first : (s : Terms K) (bs : List K) → length (first_pass F c s bs) ≡ length bs
  unfolding first_pass
  length_first s [] = refl
  length_first s (b ∷ []) = refl
  length_first s (a ∷ b ∷ []) = refl
  length_first s (a₁ ∷ a₂ ∷ a₃ ∷ bs) = length_each _ 0 (a₁ ∷ a₂ ∷ a₃ ∷ bs)

  pub length_second : (s : Terms K) (bs : List K) → length (second_pass F c s bs) ≡ length bs
  unfolding second_pass
  length_second s [] = refl
  length_second s (b ∷ []) = refl
  length_second s (a ∷ b ∷ []) = refl
  length_second s (a₁ ∷ a₂ ∷ a₃ ∷ bs) = length_each _ 0 (a₁ ∷ a₂ ∷ a₃ ∷ bs)

  pub length_third : (s : Terms K) (bs : List K) → length (third_pass F c s bs) ≡ length bs
  unfolding third_pass
  length_third s [] = refl
  length_third s (b ∷ []) = refl
  length_third s (a ∷ b ∷ []) = refl
  length_third s (a₁ ∷ a₂ ∷ a₃ ∷ bs) = length_each _ 0 (a₁ ∷ a₂ ∷ a₃ ∷ bs)

  pub length_unsealed : (s : Terms K) (L : K) (bs : List K) → length (unsealed F c s L bs) ≡ length bs
  unfolding unsealed
  length_unsealed s L [] = refl
  length_unsealed s L (b ∷ []) = refl
  length_unsealed s L (a ∷ b ∷ []) = refl
  length_unsealed s L (a₁ ∷ a₂ ∷ a₃ ∷ bs) = simp length_each

  pub passes_seal : (s : Terms K) (bs : List K) → third_pass F c s (second_pass F c s (first_pass F c s bs)) ≡ sealed F c s bs
  passes_seal s bs = passes_seal_at s.r s.en s.een s.m bs

  pub length_sealed : (s : Terms K) (bs : List K) → length (sealed F c s bs) ≡ length bs
  length_sealed s bs = ap length (sym (passes_seal s bs)) ∙ length_third s _ ∙ length_second s _ ∙ length_first s bs

  pub sealed_agrees : (s : Terms K) (bs : List K) → length bs ≡ s.m → scheme.sealed F E D s bs ≡ sealed F c s bs
  sealed_agrees s bs l =
      let PP : List K = scheme.hashed F E D s bs in
      let CCC : List K = scheme.enciphered F E D s PP in
      let lp : length PP ≡ s.m = length_each _ 0 bs ∙ l in
      let lc : length CCC ≡ s.m = ap length (second_agrees s PP lp) ∙ length_second s PP ∙ lp in
      third_agrees s CCC lc ∙ ap (third_pass F c s) (second_agrees s PP lp) ∙ ap (λ z. third_pass F c s (second_pass F c s z)) (first_agrees s bs l)
      ∙ passes_seal s bs
