-- The key expansion, word by word.
use Rattle.std.proofs.Common.{◌≡◌, ℕ, suc, ◌+◌, ◌-◌, ◌*◌, ◌/◌, ◌%◌, ◌<◌, ◌≤◌, cond, eqb, List, [], ◌∷◌, ◌++◌, length, get_or, take, set, sym, refl, ap, ◌∙◌, ap₂, append_assoc, arith, length-set, eq-eqb, ne_eqb}
use Rattle.std.proofs.lemmas.List.{get_or-take, take_more_set}
use Rattle.aes.specs.Keys.{word_at, rot_word, sub_word, xor_words, rcon, temp, next_word, expanded}

pub temp_other : (w : List ℕ) (i : ℕ) → (i % 4 ≡ 0 → ⊥) → temp w i ≡ word_at w (i - 1)
unfolding temp
temp_other w i h = let e = ne_eqb (i % 4) 0 h in simp e

pub temp_fourth : (w : List ℕ) (i : ℕ) → i % 4 ≡ 0 → temp w i ≡ xor_words (sub_word (rot_word (word_at w (i - 1)))) (rcon (i / 4))
unfolding temp
temp_fourth w i h = let e = eq-eqb (i % 4) 0 h in simp e

-- a word is made of the words before it alone
word_take : (w : List ℕ) (i j : ℕ) → j < i → word_at (take (4 * i) w) j ≡ word_at w j
word_take w i j h =
    let a = get_or-take (4 * i) w (4 * j) 0 (omega arith) in
    let b = get_or-take (4 * i) w (4 * j + 1) 0 (omega arith) in
    let c = get_or-take (4 * i) w (4 * j + 2) 0 (omega arith) in
    let d = get_or-take (4 * i) w (4 * j + 3) 0 (omega arith) in
    cc

next_take : (w : List ℕ) (i : ℕ) → 4 ≤ i → next_word (take (4 * i) w) i ≡ next_word w i
unfolding next_word temp
next_take w i h =
    ap₂ (λ a b. xor_words a (cond (eqb (i % 4) 0) (xor_words (sub_word (rot_word b)) (rcon (i / 4))) b))
    (word_take w i (i - 4) (omega arith)) (word_take w i (i - 1) (omega arith))

-- four bytes written one after the other
pub take_four : (w : List ℕ) (n m a b c d : ℕ) → n + 4 ≤ length w → n + 4 ≡ m
    → take m (set (set (set (set w n a) (n + 1) b) (n + 2) c) (n + 3) d) ≡ take n w ++ (a ∷ b ∷ c ∷ d ∷ [])
take_four w n m a b c d h e =
    let w1 : List ℕ = set w n a in
    let w2 : List ℕ = set w1 (n + 1) b in
    let w3 : List ℕ = set w2 (n + 2) c in
    let l1 = length-set w n a in
    let l2 = length-set w1 (n + 1) b in
    let l3 = length-set w2 (n + 2) c in
    let f0 = take_more_set w n a (omega arith) in
    let f1 = take_more_set w1 (n + 1) b (omega arith) in
    let f2 = take_more_set w2 (n + 2) c (omega arith) in
    let f3 = take_more_set w3 (n + 3) d (omega arith) in
    let n2 : (n + 1) + 1 ≡ n + 2 = omega arith in
    let n3 : (n + 2) + 1 ≡ n + 3 = omega arith in
    let n4 : (n + 3) + 1 ≡ m = omega arith in
    let g1 : take (n + 2) w2 ≡ take (n + 1) w1 ++ b ∷ [] = rw n2 at f1 in
    let g2 : take (n + 3) w3 ≡ take (n + 2) w2 ++ c ∷ [] = rw n3 at f2 in
    let g3 : take m (set w3 (n + 3) d) ≡ take (n + 3) w3 ++ d ∷ [] = rw n4 at f3 in
    g3 ∙ ap (λ x. x ++ d ∷ []) (g2 ∙ ap (λ x. x ++ c ∷ []) (g1 ∙ ap (λ x. x ++ b ∷ []) f0)) ∙ simp append_assoc

pub expanded_none : (key : List ℕ) → expanded key 0 ≡ key
unfolding expanded
expanded_none key = refl

expanded_suc : (key : List ℕ) (n : ℕ) → expanded key (suc n) ≡ expanded key n ++ next_word (expanded key n) (4 + n)
unfolding expanded
expanded_suc key n = refl

-- one word more, where i words stand
pub expanded_more : (key w : List ℕ) (i : ℕ) → 4 ≤ i → take (4 * i) w ≡ expanded key (i - 4) → take (4 * i) w ++ next_word w i ≡ expanded key (i + 1 - 4)
expanded_more key w i h e =
    let n : ℕ = i - 4 in
    let p : i + 1 - 4 ≡ suc n = omega arith in
    let q : 4 + n ≡ i = omega arith in
    ap (λ x. take (4 * i) w ++ x) (sym (next_take w i h) ∙ ap (λ x. next_word x i) e)
    ∙ ap (λ x. x ++ next_word (expanded key n) i) e
    ∙ ap (λ k. expanded key n ++ next_word (expanded key n) k) (sym q)
    ∙ sym (expanded_suc key n)
    ∙ ap (expanded key) (sym p)

-- a word is its four bytes
pub word_is : (w : List ℕ) (i : ℕ) (x : List ℕ) → x ≡ next_word w i → (get_or x 0 0 ∷ get_or x 1 0 ∷ get_or x 2 0 ∷ get_or x 3 0 ∷ []) ≡ next_word w i
unfolding next_word
word_is w i x e = ap (λ y. get_or y 0 0 ∷ get_or y 1 0 ∷ get_or y 2 0 ∷ get_or y 3 0 ∷ []) e
