-- What the laws give, and the round trip of the three passes.
use Rattle.std.proofs.Common.{◌≡◌, ℕ, suc, List, [], ◌∷◌, map, length, sym, refl, ap, ◌∙◌, ap₂}
use mathlib.Core.Path.{fun_ext}
use lib.ListN.{length-map}
use Rattle.kind.specs.Laws.{Ops, Laws}
use Rattle.passes.specs.Rows.{pow, sum, each}
use Rattle.passes.specs.Scheme.{times_powers, with_masks, value, masked}

pub each_each : {A B C : Type 0} (g : ℕ → B → C) (f : ℕ → A → B) (i : ℕ) (bs : List A) → each g i (each f i bs) ≡ each (λ j b. g j (f j b)) i bs
each_each g f i [] = refl
each_each g f i (b ∷ bs) = ap (λ t. g i (f i b) ∷ t) (each_each g f (suc i) bs)

pub each_same : {A B : Type 0} (f g : ℕ → A → B) → ((i : ℕ) (b : A) → f i b ≡ g i b) → (i : ℕ) (bs : List A) → each f i bs ≡ each g i bs
each_same f g h i bs = ap (λ k. each k i bs) (fun_ext (λ j. fun_ext (h j)))

pub each_id : {A : Type 0} (f : ℕ → A → A) → ((i : ℕ) (b : A) → f i b ≡ b) → (i : ℕ) (bs : List A) → each f i bs ≡ bs
each_id f h i [] = refl
each_id f h i (b ∷ bs) = ap (λ y. y ∷ each f (suc i) bs) (h i b) ∙ ap (λ t. b ∷ t) (each_id f h (suc i) bs)

pub length_each : {A B : Type 0} (f : ℕ → A → B) (i : ℕ) (bs : List A) → length (each f i bs) ≡ length bs
length_each f i [] = refl
length_each f i (b ∷ bs) = ap suc (length_each f (suc i) bs)

pub map_back : {A B : Type 0} (d : B → A) (e : A → B) → ((a : A) → d (e a) ≡ a) → (bs : List A) → map d (map e bs) ≡ bs
map_back d e de [] = refl
map_back d e de (b ∷ bs) = ap₂ ◌∷◌ (de b) (map_back d e de bs)

pub each_suc : {A B : Type 0} (f : ℕ → A → B) (i : ℕ) (bs : List A) → each f (suc i) bs ≡ each (λ j b. f (suc j) b) i bs
each_suc f i [] = refl
each_suc f i (b ∷ bs) = ap (λ t. f (suc i) b ∷ t) (each_suc f (suc i) bs)

module _ {K : Type 0} {F : Ops K} (law : Laws F) where
  open F use {add as ◌⊕◌, mul as ◌·◌, zero, one}

  infixl 60 ◌⊕◌
  infixl 70 ◌·◌
  pub add_back : (a b : K) → a ⊕ b ⊕ b ≡ a
  add_back a b = law.add_assoc a b b ∙ ap (λ t. a ⊕ t) (law.add_self b) ∙ law.add_zero a

  pub zero_add : (a : K) → zero ⊕ a ≡ a
  zero_add a = law.add_comm zero a ∙ law.add_zero a

  pub mul_zero : (a : K) → a · zero ≡ zero
  mul_zero a =
      ap (λ t. a · t) (sym (law.add_self zero)) ∙ law.distrib a zero zero ∙ law.add_self (a · zero)

  pub zero_mul : (a : K) → zero · a ≡ zero
  zero_mul a = law.mul_comm zero a ∙ mul_zero a

  pub distrib_right : (a b c : K) → (a ⊕ b) · c ≡ a · c ⊕ b · c
  distrib_right a b c = law.mul_comm _ c ∙ law.distrib c a b ∙ ap₂ ◌⊕◌ (law.mul_comm c a) (law.mul_comm c b)

  pub add_left_comm : (a b c : K) → a ⊕ (b ⊕ c) ≡ b ⊕ (a ⊕ c)
  add_left_comm a b c = sym (law.add_assoc a b c) ∙ ap (λ t. t ⊕ c) (law.add_comm a b) ∙ law.add_assoc b a c

  pub mul_left_comm : (a b c : K) → a · (b · c) ≡ b · (a · c)
  mul_left_comm a b c = sym (law.mul_assoc a b c) ∙ ap (λ t. t · c) (law.mul_comm a b) ∙ law.mul_assoc b a c

  pub one_mul : (a : K) → one · a ≡ a
  one_mul a = law.mul_comm one a ∙ law.mul_one a

  pub swap_middle : (a b c d : K) → (a ⊕ b) ⊕ (c ⊕ d) ≡ (a ⊕ c) ⊕ (b ⊕ d)
  swap_middle a b c d = simp (law.add_assoc, add_left_comm)

  pub sum_shift : (n : ℕ → K) (i : ℕ) (bs : List K) → sum F (each (λ j b. b ⊕ n j) i bs) ≡ sum F bs ⊕ sum F (each (λ j b. n j) i bs)
  sum_shift n i [] = sym (law.add_zero zero)
  sum_shift n i (b ∷ bs) = ap (λ t. (b ⊕ n i) ⊕ t) (sum_shift n (suc i) bs) ∙ swap_middle b (n i) _ _

  pub pow_back : (l r : K) → l · r ≡ one → (i : ℕ) (b : K) → pow F l i · (pow F r i · b) ≡ b
  pow_back l r e ℕ.zero b = simp one_mul
  pow_back l r e (suc i) b =
      let u : l · pow F l i · (r · pow F r i · b) ≡ (l · r) · (pow F l i · (pow F r i · b)) = simp (law.mul_assoc, mul_left_comm) in
      u ∙ ap (λ t. t · (pow F l i · (pow F r i · b))) e ∙ one_mul _ ∙ pow_back l r e i b

  pub powers_back : (l r : K) → l · r ≡ one → (bs : List K) → times_powers F l (times_powers F r bs) ≡ bs
  powers_back l r lr bs = each_each _ _ 0 bs ∙ each_id _ (pow_back l r lr) 0 bs

  pub masks_back : (n : ℕ → K) (bs : List K) → with_masks F n (with_masks F n bs) ≡ bs
  masks_back n bs = each_each _ _ 0 bs ∙ each_id _ (λ i b. add_back b (n i)) 0 bs

  -- what the masks n add, all told, to the sum of m blocks, whatever value they are made from
  abbrev pub Adds : (K → ℕ → K) → ℕ → K → Type 0
  Adds n m t = (M : K) (bs : List K) → length bs ≡ m → sum F (each (λ i b. n M i) 0 bs) ≡ t

  -- a mask is added twice: what the masks add, all told, is added to what ended the first sum
  pub masked_back : (h : K → K) (n : K → ℕ → K) (m : ℕ) (t : K) → Adds n m t → (k k' : K) → k' ≡ k ⊕ t → (bs : List K) → length bs ≡ m → masked F h n k' (masked F h n k bs) ≡ bs
  masked_back h n m t adds k k' ek bs lm =
      let M : K = value F h k bs in
      let same : value F h k' (with_masks F (n M) bs) ≡ M =
      ap h (ap₂ ◌⊕◌ (sum_shift (n M) 0 bs ∙ ap (λ z. sum F bs ⊕ z) (adds M bs lm)) (ek ∙ law.add_comm k t)
      ∙ sym (law.add_assoc (sum F bs ⊕ t) t k) ∙ ap (λ z. z ⊕ k) (add_back (sum F bs) t)) in
      ap (λ V. with_masks F (n V) (with_masks F (n M) bs)) same ∙ masks_back (n M) bs

  -- the passes undone: one lemma for both directions, at two blocks and above
  pub passes_undone : (h e d : K → K) → ((b : K) → d (e b) ≡ b) → (r l : K) → l · r ≡ one → (n : K → ℕ → K) (m : ℕ) (t : K) → Adds n m t → (k₁ k₁' k₂ k₂' : K) → k₁' ≡ k₁ ⊕ t → k₂' ≡ k₂ ⊕ t → (bs : List K) → length bs ≡ m →
      times_powers F l (masked F h n k₁' (map d (masked F h n k₂' (times_powers F l (times_powers F r (masked F h n k₂ (map e (masked F h n k₁ (times_powers F r bs))))))))) ≡ bs
  passes_undone h e d de r l lr n m t adds k₁ k₁' k₂ k₂' e₁ e₂ bs lm =
      let ps : List K = times_powers F r bs in
      let ms : List K = masked F h n k₁ ps in
      let lp : length ps ≡ m = length_each _ 0 bs ∙ lm in
      let lc : length (map e ms) ≡ m = length-map ms e ∙ length_each _ 0 ps ∙ lp in
      ap (λ X. times_powers F l (masked F h n k₁' (map d (masked F h n k₂' X)))) (powers_back l r lr _)
      ∙ ap (λ X. times_powers F l (masked F h n k₁' (map d X))) (masked_back h n m t adds k₂ k₂' e₂ (map e ms) lc)
      ∙ ap (λ X. times_powers F l (masked F h n k₁' X)) (map_back d e de ms)
      ∙ ap (times_powers F l) (masked_back h n m t adds k₁ k₁' e₁ ps lp)
      ∙ powers_back l r lr bs
