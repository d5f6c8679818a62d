-- The matrix of MixColumns and that of InvMixColumns undo one another on every column of bytes.
-- Both are linear, so it suffices to look at columns with one byte that is not zero.
use Rattle.std.proofs.Common.{◌≡◌, ℕ, ◌<◌, Bool, T, eqb, ap, ◌∙◌, lit<, eqb→eq}
use lib.Bits.{bit_xor, xor_lt, xor_zero_r}
use Rattle.std.specs.List.{range_with_len}
use Rattle.field.specs.Field.{times_x, combine, powers}
use Rattle.field.specs.Field.{mul as product}
use Rattle.field.proofs.Linear.{xor_swap}
use Rattle.field.proofs.Ring as ring
use Rattle.aes_steps.specs.Field.{mul}
use Rattle.aes_steps.specs.Steps.{mix, inv_mix}
use Rattle.aes_steps.proofs.Table.{both, both_left, both_right, every, upto}

abbrev pub Rule : Type 0
Rule = ℕ → ℕ → ℕ → ℕ → ℕ

mul_add : (k a b : ℕ) → mul k (bit_xor a b) ≡ bit_xor (mul k a) (mul k b)
mul_add k a b = ring.mul_linear_r 8 0x1b (lit< tt) k a b

mul_lt : (k a : ℕ) → a < 256 → mul k a < 256
mul_lt k a h = ring.mul_lt 8 0x1b (lit< tt) k a h

abbrev sum4 : Rule
sum4 a b c d = bit_xor (bit_xor (bit_xor a b) c) d

-- a rule that takes a sum of columns to the sum of what it makes of each
abbrev Linear : Rule → Type 0
Linear R = (a b c d a' b' c' d' : ℕ) → R (bit_xor a a') (bit_xor b b') (bit_xor c c') (bit_xor d d') ≡ bit_xor (R a b c d) (R a' b' c' d')

sum4_linear : Linear sum4
sum4_linear a b c d a' b' c' d' =
    ap (λ x. bit_xor (bit_xor x (bit_xor c c')) (bit_xor d d')) (xor_swap a a' b b')
    ∙ ap (λ x. bit_xor x (bit_xor d d')) (xor_swap (bit_xor a b) (bit_xor a' b') c c')
    ∙ xor_swap (bit_xor (bit_xor a b) c) (bit_xor (bit_xor a' b') c') d d'

mix_linear : Linear mix
unfolding mix
mix_linear a b c d a' b' c' d' =
    simp (mul_add 2 a a', mul_add 3 b b') (sum4_linear (mul 2 a) (mul 3 b) c d (mul 2 a') (mul 3 b') c' d')

inv_mix_linear : Linear inv_mix
unfolding inv_mix
inv_mix_linear a b c d a' b' c' d' =
    simp (mul_add 14 a a', mul_add 11 b b', mul_add 13 c c', mul_add 9 d d')
    (sum4_linear (mul 14 a) (mul 11 b) (mul 13 c) (mul 9 d) (mul 14 a') (mul 11 b') (mul 13 c') (mul 9 d'))

-- the rule S of what the rule R makes of each row
abbrev pub after : Rule → Rule → Rule
after R S a b c d = S (R a b c d) (R b c d a) (R c d a b) (R d a b c)

after_linear : (R S : Rule) → Linear R → Linear S → Linear (after R S)
after_linear R S r s a b c d a' b' c' d' =
    simp (r a b c d a' b' c' d', r b c d a b' c' d' a', r c d a b c' d' a' b', r d a b c d' a' b' c')
    (s (R a b c d) (R b c d a) (R c d a b) (R d a b c) (R a' b' c' d') (R b' c' d' a') (R c' d' a' b') (R d' a' b' c'))

-- of a column with one byte x the rule Q gives x where it is the first, and else zero
abbrev picks_first : Rule → ℕ → Bool
picks_first Q x = both (eqb (Q x 0 0 0) x) (both (eqb (Q 0 x 0 0) 0) (both (eqb (Q 0 0 x 0) 0) (eqb (Q 0 0 0 x) 0)))

first_of : (Q : Rule) → Linear Q → ((x : ℕ) → x < 256 → T (picks_first Q x)) → (a b c d : ℕ) → a < 256 → b < 256 → c < 256 → d < 256 → Q a b c d ≡ a
first_of Q l t a b c d ha hb hc hd =
    let p = t a ha in
    let q = t b hb in
    let u = t c hc in
    let v = t d hd in
    let a0 = eqb→eq (Q a 0 0 0) a (both_left (eqb (Q a 0 0 0) a) _ p) in
    let b0 = eqb→eq (Q 0 b 0 0) 0 (both_left (eqb (Q 0 b 0 0) 0) _ (both_right (eqb (Q b 0 0 0) b) _ q)) in
    let c0 = eqb→eq (Q 0 0 c 0) 0 (both_left (eqb (Q 0 0 c 0) 0) _ (both_right (eqb (Q 0 c 0 0) 0) _ (both_right (eqb (Q c 0 0 0) c) _ u))) in
    let d0 = eqb→eq (Q 0 0 0 d) 0 (both_right (eqb (Q 0 0 d 0) 0) _ (both_right (eqb (Q 0 d 0 0) 0) _ (both_right (eqb (Q d 0 0 0) d) _ v))) in
    let e1 = l a 0 0 0 0 b c d in
    let e2 = l 0 b 0 0 0 0 c d in
    let e3 = l 0 0 c 0 0 0 0 d in
    let za = xor_zero_r a in
    let zb = xor_zero_r b in
    let zc = xor_zero_r c in
    let f1 : Q a b c d ≡ bit_xor (Q a 0 0 0) (Q 0 b c d) = simp za at e1 in
    let f2 : Q 0 b c d ≡ bit_xor (Q 0 b 0 0) (Q 0 0 c d) = simp zb at e2 in
    let f3 : Q 0 0 c d ≡ bit_xor (Q 0 0 c 0) (Q 0 0 0 d) = simp zc at e3 in
    let g3 : Q 0 0 c d ≡ 0 = f3 ∙ ap (λ x. bit_xor x (Q 0 0 0 d)) c0 ∙ d0 in
    let g2 : Q 0 b c d ≡ 0 = f2 ∙ ap (λ x. bit_xor x (Q 0 0 c d)) b0 ∙ g3 in
    f1 ∙ ap (λ x. bit_xor x (Q 0 b c d)) a0 ∙ ap (bit_xor a) g2 ∙ za

mixed_test : T (every (λ k x. picks_first (after mix inv_mix) x) 0 (range_with_len 0 256))
unfolding mix inv_mix product combine powers times_x
mixed_test = tt

unmixed_test : T (every (λ k x. picks_first (after inv_mix mix) x) 0 (range_with_len 0 256))
unfolding mix inv_mix product combine powers times_x
unmixed_test = tt

pub mix_undone : (a b c d : ℕ) → a < 256 → b < 256 → c < 256 → d < 256 → after mix inv_mix a b c d ≡ a
mix_undone = first_of (after mix inv_mix) (after_linear mix inv_mix mix_linear inv_mix_linear) (upto (picks_first (after mix inv_mix)) 256 mixed_test)

pub inv_mix_undone : (a b c d : ℕ) → a < 256 → b < 256 → c < 256 → d < 256 → after inv_mix mix a b c d ≡ a
inv_mix_undone = first_of (after inv_mix mix) (after_linear inv_mix mix inv_mix_linear mix_linear) (upto (picks_first (after inv_mix mix)) 256 unmixed_test)

pub mix_lt : (a b c d : ℕ) → a < 256 → b < 256 → c < 256 → d < 256 → mix a b c d < 256
unfolding mix
mix_lt a b c d ha hb hc hd =
    xor_lt 8 (bit_xor (bit_xor (mul 2 a) (mul 3 b)) c) d
    (xor_lt 8 (bit_xor (mul 2 a) (mul 3 b)) c (xor_lt 8 (mul 2 a) (mul 3 b) (mul_lt 2 a ha) (mul_lt 3 b hb)) hc) hd

pub inv_mix_lt : (a b c d : ℕ) → a < 256 → b < 256 → c < 256 → d < 256 → inv_mix a b c d < 256
unfolding inv_mix
inv_mix_lt a b c d ha hb hc hd =
    xor_lt 8 (bit_xor (bit_xor (mul 14 a) (mul 11 b)) (mul 13 c)) (mul 9 d)
    (xor_lt 8 (bit_xor (mul 14 a) (mul 11 b)) (mul 13 c) (xor_lt 8 (mul 14 a) (mul 11 b) (mul_lt 14 a ha) (mul_lt 11 b hb)) (mul_lt 13 c hc)) (mul_lt 9 d hd)
