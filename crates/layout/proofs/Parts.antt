-- Lists in parts: what stands behind a front of known length, and rows of zeros.
use Rattle.std.proofs.Common.{◌≡◌, ℕ, zero, suc, ◌+◌, ◌≤◌, true, eqb, List, [], ◌∷◌, ◌++◌, length, get_or, take, drop, replicate, sym, refl, ap, ◌∙◌, append_assoc, arith}
use borrow.Rule.Slice.PartMut.{put_mid}
use Rattle.std.proofs.lemmas.List.{take_at, drop_at, drop-drop}
use Rattle.std.proofs.lemmas.Bool.{eqb-true, and_parts}
use Rattle.layout.specs.Layout.{zeros}

module _ {X : Type 0} where
  pub drop_past : (p q : List X) (n m : ℕ) → length p ≡ n → drop (n + m) (p ++ q) ≡ drop m q
  drop_past p q n m e = sym (drop-drop m n (p ++ q)) ∙ ap (drop m) (drop_at p q n e)

  pub take_past : (p q : List X) (n m : ℕ) → length p ≡ n → take (n + m) (p ++ q) ≡ p ++ take m q
  take_past [] q n m e = ap (λ (k : ℕ). take k q) (omega arith)
  take_past (x ∷ p) q zero m e = absurd (omega arith)
  take_past (x ∷ p) q (suc n) m e =
      let i : suc n + m ≡ suc (n + m) = omega arith in
      let h : length p ≡ n = omega arith in
      rw i (ap {B = List X} (λ r. x ∷ r) (take_past p q n m h))

  pub put_mid_past : (p q ys : List X) (n m k : ℕ) → length p ≡ n → put_mid (n + m) k (p ++ q) ys ≡ p ++ put_mid m k q ys
  put_mid_past p q ys n m k e =
      ap (λ (l : List X). l ++ (ys ++ drop k (drop (n + m) (p ++ q)))) (take_past p q n m e)
      ∙ ap (λ (l : List X). (p ++ take m q) ++ (ys ++ drop k l)) (drop_past p q n m e)
      ∙ append_assoc p (take m q) (ys ++ drop k (drop m q))

  pub put_mid_first : (p q ys : List X) (n : ℕ) → length p ≡ n → put_mid 0 n (p ++ q) ys ≡ ys ++ q
  put_mid_first p q ys n e = ap (λ (l : List X). ys ++ l) (drop_at p q n e)

  -- two lists with fronts of one length
  pub same_parts : (a b as' bs : List X) → length a ≡ length b → a ++ as' ≡ b ++ bs → (a ≡ b) × (as' ≡ bs)
  same_parts a b as' bs n e =
      let h : a ≡ b = sym (take_at a as' (length a) refl) ∙ ap (take (length a)) e ∙ take_at b bs (length a) (sym n) in
      let t : as' ≡ bs = sym (drop_at a as' (length a) refl) ∙ ap (drop (length a)) e ∙ drop_at b bs (length a) (sym n) in
      (h, t)

pub two_first : (r : List ℕ) → 2 ≤ length r → r ≡ get_or r 0 0 ∷ (get_or r 1 0 ∷ drop 2 r)
two_first [] h = absurd (omega arith)
two_first (x ∷ []) h = absurd (omega arith)
two_first (x ∷ (y ∷ r)) h = refl

pub zeros_are : (xs : List ℕ) → zeros xs ≡ true → xs ≡ replicate (length xs) 0
zeros_are [] e = refl
zeros_are (x ∷ xs) e =
    let p = and_parts (eqb x 0) (zeros xs) e in
    let h = eqb-true x 0 p.0 in
    let t = zeros_are xs p.1 in
    cc

pub zeros_of : (n : ℕ) → zeros (replicate n 0) ≡ true
zeros_of zero = refl
zeros_of (suc n) = zeros_of n
