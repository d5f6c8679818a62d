-- The step of a loop that walks over a list in place with a state.
use Rattle.std.proofs.Common.{◌≡◌, ℕ, suc, ◌+◌, ◌<◌, ◌≤◌, List, [], ◌∷◌, ◌++◌, length, get_or, take, drop, set, sym, refl, ap, ◌∙◌, ap₂, subst₂, add-zero, arith}
use Rattle.std.proofs.lemmas.List.{drop-drop, drop_more, take_more, set_at, get_or_at, length-take-le, take_all, append-nil, drop_all, append_assoc, get_or-drop}
use Rattle.kind.specs.Blocks.{over, after}

module _ {S X : Type 0} (out : S → X → X) (next : S → X → S) where
  pub over_length : (s : S) (xs : List X) → length (over out next s xs) ≡ length xs
  unfolding over
  over_length s [] = refl
  over_length s (x ∷ xs) = ap suc (over_length (next s x) xs)

  over_cons : (s : S) (x : X) (xs : List X) → over out next s (x ∷ xs) ≡ out s x ∷ over out next (next s x) xs
  unfolding over
  over_cons s x xs = refl

  after_cons : (s : S) (x : X) (xs : List X) → after next s (x ∷ xs) ≡ after next (next s x) xs
  unfolding after
  after_cons s x xs = refl

  after_nil : (s : S) → after next s [] ≡ s
  unfolding after
  after_nil s = refl

  -- where the walk of xs from s₀ has come to i: ys is the list now, s the state now
  pub record At (s₀ : S) (xs ys : List X) (i : ℕ) (s : S) : Type 0 where
    pub done : ys ≡ take i (over out next s₀ xs) ++ drop i xs
    pub rest : drop i (over out next s₀ xs) ≡ over out next s (drop i xs)
    pub ends : after next s (drop i xs) ≡ after next s₀ xs

  pub at_none : (s₀ : S) (xs : List X) → At s₀ xs xs 0 s₀
  at_none s₀ xs = record { done = refl; rest = refl; ends = refl }

  pub at_more : (s₀ : S) (xs ys : List X) (i : ℕ) (s : S) (x : X) → i < length xs → At s₀ xs ys i s → x ≡ get_or ys i x
      → At s₀ xs (set ys i (out s x)) (i + 1) (next s x)
  at_more s₀ xs ys i s x h a r =
      let R = over out next s₀ xs in
      let l : length R ≡ length xs = over_length s₀ xs in
      let hR : i < length R = omega arith in
      let lt : length (take i R) ≡ i = length-take-le i R (omega arith) in
      let z : X = get_or xs i x in
      let cut : drop i xs ≡ z ∷ drop (i + 1) xs = drop_more xs i x h in
      let yz : ys ≡ take i R ++ (z ∷ drop (i + 1) xs) = a.done ∙ ap (λ t. take i R ++ t) cut in
      let xz : x ≡ z = r ∙ ap (λ t. get_or t i x) yz ∙ get_or_at (take i R) z (drop (i + 1) xs) x i lt in
      let dR : drop i R ≡ out s z ∷ over out next (next s z) (drop (i + 1) xs) = a.rest ∙ ap (over out next s) cut ∙ over_cons s z (drop (i + 1) xs) in
      let gR : get_or R i x ≡ out s z = ap (λ n. get_or R n x) (sym (add-zero i)) ∙ sym (get_or-drop i R 0 x) ∙ ap (λ t. get_or t 0 x) dR in
      let tR : take (i + 1) R ≡ take i R ++ (out s z ∷ []) = take_more R i x hR ∙ ap (λ y. take i R ++ (y ∷ [])) gR in
      record {
        done = ap₂ (λ t y. set t i (out s y)) yz xz ∙ set_at (take i R) z (drop (i + 1) xs) (out s z) i lt
            ∙ sym (append_assoc (take i R) (out s z ∷ []) (drop (i + 1) xs)) ∙ ap (λ t. t ++ drop (i + 1) xs) (sym tR);
        rest = sym (drop-drop 1 i R) ∙ ap (drop 1) dR ∙ ap (λ y. over out next (next s y) (drop (i + 1) xs)) (sym xz);
        ends = ap (λ y. after next (next s y) (drop (i + 1) xs)) xz ∙ sym (after_cons s z (drop (i + 1) xs)) ∙ ap (after next s) (sym cut) ∙ a.ends;
      }

  pub at_all : (s₀ : S) (xs ys : List X) (i : ℕ) (s : S) → length xs ≤ i → At s₀ xs ys i s → ys ≡ over out next s₀ xs
  at_all s₀ xs ys i s h a =
      let R = over out next s₀ xs in
      a.done ∙ ap₂ ◌++◌ (take_all i R (omega (arith, over_length s₀ xs))) (drop_all i xs h) ∙ append-nil R

  pub at_end : (s₀ : S) (xs ys : List X) (i : ℕ) (s : S) → length xs ≤ i → At s₀ xs ys i s → s ≡ after next s₀ xs
  at_end s₀ xs ys i s h a = sym (after_nil s) ∙ ap (after next s) (sym (drop_all i xs h)) ∙ a.ends

  -- the same, over what a turn's calls say: v was written, and the state became t
  pub at_next : (s₀ : S) (xs ys zs : List X) (i : ℕ) (s t : S) (x v : X) → i < length xs → At s₀ xs ys i s → x ≡ get_or ys i x
      → v ≡ out s x → zs ≡ set ys i v → t ≡ next s x → At s₀ xs zs (i + 1) t
  at_next s₀ xs ys zs i s t x v h a r p q e =
      subst₂ (λ z u. At s₀ xs z (i + 1) u) (ap (set ys i) (sym p) ∙ sym q) (sym e) (at_more s₀ xs ys i s x h a r)
