-- The mask coefficients of the two kinds: no two equal, and none of a degree of n or more, by one computed test over all counts.
use Rattle.std.proofs.Common.{◌≡◌, ℕ, zero, suc, ◌+◌, ◌-◌, ◌*◌, ◌^◌, ◌<◌, ◌≤◌, Bool, true, false, not, T, eqb, ltb, List, [], ◌∷◌, sym, refl, ap, ◌∙◌, subst, ap₂, not-suc-le-zero, one-mul, zero-mul, arith, eqb→eq, ltb→lt, T_not}
use mathlib.Core.Path.{fun_ext}
use native.Mathlib.Decide.{dec_lt}
use lib.Dec.{eqb_refl}
use lib.Bits.{bit_xor, xor_zero_r}
use Rattle.field.proofs.Linear.{linear_zero, combine_linear}
use Rattle.field.specs.Field.{times_x, combine, powers, mul}
use Rattle.field.specs.Mask.{times, singles, pairs, run, by_rest, coefficients, total, Differs, Apart, written, most_blocks}

abbrev pub both : Bool → Bool → Bool
both true b = b
both false b = false

pub both_left : (a b : Bool) → T (both a b) → T a
both_left true b t = tt
both_left false b t = t

pub both_right : (a b : Bool) → T (both a b) → T b
both_right true b t = t
both_right false b t = absurd t

-- a test of each number below k
unfoldable pub below : (ℕ → Bool) → ℕ → Bool
below p zero = true
below p (suc k) = both (p k) (below p k)

pub below_at : (p : ℕ → Bool) (k : ℕ) → T (below p k) → (i : ℕ) → i < k → T (p i)
unfolding below
below_at p zero t i h = absurd (not-suc-le-zero h)
below_at p (suc k) t i h =
    elim (dec_lt i k) [
      | yes l ↦ below_at p k (both_right (p k) (below p k) t) i l
      | no g ↦ let e : k ≡ i = omega arith in subst (λ x. T (p x)) e (both_left (p k) (below p k) t)
    ]

unfoldable pub differs : ℕ → List ℕ → Bool
differs a [] = true
differs a (b ∷ bs) = both (not (eqb a b)) (differs a bs)

unfoldable pub apart : List ℕ → Bool
apart [] = true
apart (a ∷ es) = both (differs a es) (apart es)

differs_rule : (a : ℕ) (bs : List ℕ) → T (differs a bs) → Differs a bs
unfolding differs
differs_rule a [] t = tt
differs_rule a (b ∷ bs) t = (
  λ e. T_not (eqb a b) (both_left (not (eqb a b)) (differs a bs) t) (subst (λ x. T (eqb a x)) e (eqb_refl a)),
  differs_rule a bs (both_right (not (eqb a b)) (differs a bs) t),
)

apart_rule : (es : List ℕ) → T (apart es) → Apart es
unfolding apart
apart_rule [] t = tt
apart_rule (a ∷ es) t =
    (differs_rule a es (both_left (differs a es) (apart es) t), apart_rule es (both_right (differs a es) (apart es) t))

-- the product by x is the shift, of every number
mul_two : (n f a : ℕ) → mul (suc (suc n)) f 2 a ≡ times_x (suc (suc n)) f a
unfolding mul combine powers
mul_two n f a =
    ap₂ bit_xor (zero-mul a)
    (ap₂ bit_xor (one-mul (times_x (suc (suc n)) f a)) (linear_zero (combine (powers (suc (suc n)) f n (times_x (suc (suc n)) f (times_x (suc (suc n)) f a)))) (combine_linear (powers (suc (suc n)) f n (times_x (suc (suc n)) f (times_x (suc (suc n)) f a)))))
    ∙ xor_zero_r (times_x (suc (suc n)) f a))

-- each is above zero and below b
abbrev pub AllBelow : ℕ → List ℕ → Type 0
AllBelow b [] = Unit {0}
AllBelow b (v ∷ vs) = (0 < v) × (v < b) × AllBelow b vs

all_lt : ℕ → List ℕ → Bool
all_lt b [] = true
all_lt b (v ∷ vs) = both (ltb 0 v) (both (ltb v b) (all_lt b vs))

same : List ℕ → List ℕ → Bool
same [] [] = true
same [] (b ∷ bs) = false
same (a ∷ es) [] = false
same (a ∷ es) (b ∷ bs) = both (eqb a b) (same es bs)

same_eq : (es bs : List ℕ) → T (same es bs) → es ≡ bs
unfolding same
same_eq [] [] t = refl
same_eq [] (b ∷ bs) t = absurd t
same_eq (a ∷ es) [] t = absurd t
same_eq (a ∷ es) (b ∷ bs) t = ap₂ (λ x xs. x ∷ xs) (eqb→eq a b (both_left (eqb a b) (same es bs) t)) (same_eq es bs (both_right (eqb a b) (same es bs) t))

below_rule : (b : ℕ) (l : List ℕ) → T (all_lt b l) → AllBelow b l
unfolding all_lt
below_rule b [] t = tt
below_rule b (v ∷ vs) t =
    let s = both_right (ltb 0 v) (both (ltb v b) (all_lt b vs)) t in
    (ltb→lt 0 v (both_left (ltb 0 v) (both (ltb v b) (all_lt b vs)) t), ltb→lt v b (both_left (ltb v b) (all_lt b vs) s), below_rule b vs (both_right (ltb v b) (all_lt b vs) s))

pub good : ℕ → ℕ → ℕ → Bool
good n f i =
    let l : List ℕ = coefficients bit_xor (times_x n f) 1 (i + 3) in
    let w : List ℕ = coefficients bit_xor (λ a. a * 2) 1 (i + 3) in
    both (eqb (total bit_xor 0 l) 0) (both (apart l) (both (all_lt (2 ^ n) w) (same w l)))

passes64 : T (below (good 64 0x1b) 62)
unfolding times_x times singles pairs run by_rest coefficients total differs apart below good all_lt same
passes64 = tt

passes128 : T (below (good 128 0x87) 62)
unfolding times_x times singles pairs run by_rest coefficients total differs apart below good all_lt same
passes128 = tt

module _ (n f : ℕ) (passes : T (below (good (suc (suc n)) f) 62)) where
  from_good : (m : ℕ) → 3 ≤ m → m ≤ most_blocks → T (good (suc (suc n)) f (m - 3))
  from_good m lo hi = below_at (good (suc (suc n)) f) 62 passes (m - 3) (omega arith)

  by_x : (λ a. mul (suc (suc n)) f 2 a) ≡ times_x (suc (suc n)) f
  by_x = fun_ext (mul_two n f)

  coef : ℕ → List ℕ
  coef m = coefficients bit_xor (times_x (suc (suc n)) f) 1 m

  coef_back : (m : ℕ) → 3 ≤ m → coef (m - 3 + 3) ≡ coefficients bit_xor (mul (suc (suc n)) f 2) 1 m
  unfolding coef
  coef_back m lo = let e : m - 3 + 3 ≡ m = omega arith in ap₂ (λ φ k. coefficients bit_xor φ 1 k) (sym by_x) e

  pub coefficients_apart : (m : ℕ) → 3 ≤ m → m ≤ most_blocks → Apart (coefficients bit_xor (mul (suc (suc n)) f 2) 1 m)
  unfolding good coef
  coefficients_apart m lo hi =
      let l : List ℕ = coef (m - 3 + 3) in
      let w : List ℕ = coefficients bit_xor (λ a. a * 2) 1 (m - 3 + 3) in
      let g : T (both (eqb (total bit_xor 0 l) 0) (both (apart l) (both (all_lt (2 ^ suc (suc n)) w) (same w l)))) = from_good m lo hi in
      subst Apart (coef_back m lo)
      (apart_rule l (both_left (apart l) (both (all_lt (2 ^ suc (suc n)) w) (same w l)) (both_right (eqb (total bit_xor 0 l) 0) (both (apart l) (both (all_lt (2 ^ suc (suc n)) w) (same w l))) g)))

  -- no power of x reaches x^n: the coefficients are the polynomials as they are written, each of a degree below n
  pub coefficients_plain : (m : ℕ) → 3 ≤ m → m ≤ most_blocks →
      (coefficients bit_xor (λ a. a * 2) 1 m ≡ coefficients bit_xor (mul (suc (suc n)) f 2) 1 m) × AllBelow (2 ^ suc (suc n)) (coefficients bit_xor (λ a. a * 2) 1 m)
  unfolding good coef
  coefficients_plain m lo hi =
      let l : List ℕ = coef (m - 3 + 3) in
      let w : List ℕ = coefficients bit_xor (λ a. a * 2) 1 (m - 3 + 3) in
      let g : T (both (eqb (total bit_xor 0 l) 0) (both (apart l) (both (all_lt (2 ^ suc (suc n)) w) (same w l)))) = from_good m lo hi in
      let h = both_right (apart l) (both (all_lt (2 ^ suc (suc n)) w) (same w l)) (both_right (eqb (total bit_xor 0 l) 0) (both (apart l) (both (all_lt (2 ^ suc (suc n)) w) (same w l))) g) in
      let e : m - 3 + 3 ≡ m = omega arith in
      let back : w ≡ coefficients bit_xor (λ a. a * 2) 1 m = ap (λ k. coefficients bit_xor (λ a. a * 2) 1 k) e in (
        sym back ∙ same_eq w l (both_right (all_lt (2 ^ suc (suc n)) w) (same w l) h) ∙ coef_back m lo,
        subst (AllBelow (2 ^ suc (suc n))) back (below_rule (2 ^ suc (suc n)) w (both_left (all_lt (2 ^ suc (suc n)) w) (same w l) h)),
      )

pub apart64 : (m : ℕ) → 3 ≤ m → m ≤ most_blocks → Apart (coefficients bit_xor (mul 64 0x1b 2) 1 m)
apart64 = coefficients_apart 62 0x1b passes64

pub apart128 : (m : ℕ) → 3 ≤ m → m ≤ most_blocks → Apart (coefficients bit_xor (mul 128 0x87 2) 1 m)
apart128 = coefficients_apart 126 0x87 passes128

pub plain64 : (m : ℕ) → 3 ≤ m → m ≤ most_blocks → (written m ≡ coefficients bit_xor (mul 64 0x1b 2) 1 m) × AllBelow (2 ^ 64) (written m)
plain64 = coefficients_plain 62 0x1b passes64

pub plain128 : (m : ℕ) → 3 ≤ m → m ≤ most_blocks → (written m ≡ coefficients bit_xor (mul 128 0x87 2) 1 m) × AllBelow (2 ^ 128) (written m)
plain128 = coefficients_plain 126 0x87 passes128
