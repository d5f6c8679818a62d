-- The first step of the division of the modulus by an element, over the width.
use Rattle.std.proofs.Common.{◌≡◌, ℕ, zero, suc, ◌+◌, ◌-◌, ◌*◌, ◌/◌, ◌%◌, ◌^◌, ◌<◌, ◌≤◌, sym, ap, ◌∙◌, subst, ap₂, le_trans, le_of_eq, lt_of_lt_of_le, mul-le-mul_right, mod-lt, mod-eq_of_lt, mul_assoc as times_assoc, mul_comm as times_comm, mul-lt-mul_of_pos_right, one-mul, pow-suc, zero-mul, mul-one, arith, pow_pos, pow_mono, pow-add}
use native.Mathlib.Nat.{div-eq_of_lt, div-eq_of_lt-le}
use native.Mathlib.Decide.{dec_lt}
use lib.Pow.{pow-lt, split}
use lib.Bits.{bit_xor, xor_zero_r, xor_lt, xor_block}
use lib.Count.{count_leading_zeros, leading_top, leading_length}
use Rattle.field.specs.Field.{times_x, mul}
use Rattle.field.proofs.Steps.{carried}
use Rattle.field.proofs.Ring as ring

-- two numbers with the same highest bit have a sum below that bit
pub top_cancel : (k a b : ℕ) → 2 ^ k ≤ a → a < 2 ^ suc k → 2 ^ k ≤ b → b < 2 ^ suc k → bit_xor a b < 2 ^ k
top_cancel k a b la ha lb hb =
    subst (λ x. x < 2 ^ k)
    (sym (ap₂ bit_xor (whole a la ha) (whole b lb hb) ∙ xor_block k 1 1 (a % 2 ^ k) (b % 2 ^ k) (mod-lt a (pow_pos k)) (mod-lt b (pow_pos k)) ∙ omega arith))
    (xor_lt k (a % 2 ^ k) (b % 2 ^ k) (mod-lt a (pow_pos k)) (mod-lt b (pow_pos k)))
  where
    whole : (c : ℕ) → 2 ^ k ≤ c → c < 2 ^ suc k → c ≡ 1 * 2 ^ k + c % 2 ^ k
    whole c l h =
        let q : c / 2 ^ k ≡ 1 = div-eq_of_lt-le (2 ^ k) (omega (arith, one-mul (2 ^ k))) (omega (arith, pow-suc 2 k)) in
        sym (ap (λ t. t * 2 ^ k + c % 2 ^ k) (sym q) ∙ split c k)

-- what is below 2^j has at least n - j zeros in front
pub zeros_above : (n j a : ℕ) → a < 2 ^ j → j ≤ n → n - j ≤ count_leading_zeros n a
zeros_above n j a h le =
    let an : a < 2 ^ n = lt_of_lt_of_le h (pow_mono le) in
    let t = leading_length n a an in
    elim (dec_lt j t.0) [
      | yes l ↦ let p : 2 ^ suc j ≤ 2 ^ t.0 = pow_mono l in omega (arith, t.3, pow-suc 2 j)
      | no g ↦ omega (arith, t.1)
    ]

-- what is above one leaves room for one more shift than its zeros in front
pub short_shift : (n u : ℕ) → 1 < n → 1 < u → u < 2 ^ n → count_leading_zeros n u + 1 < n
short_shift n u wide lo hi =
    let t = leading_top n u (omega arith) hi in
    elim (dec_lt 0 t.0) [
      | yes l ↦ omega (arith, t.1)
      | no g ↦ let z : t.0 ≡ 0 = omega arith in omega (arith, subst (λ (d : ℕ). u < 2 ^ suc d) z t.3)
    ]

module _ (n f : ℕ) (fits : f < 2 ^ n) (wide : 1 < n) where
  pub times_x_small : (a : ℕ) → a * 2 < 2 ^ n → times_x n f a ≡ a * 2
  unfolding times_x
  times_x_small a h =
      let e : n ≡ suc (n - 1) = omega arith in
      let p : 2 ^ n ≡ 2 ^ (n - 1) * 2 = ap (λ k. 2 ^ k) e ∙ pow-suc 2 (n - 1) in
      let l : a < 2 ^ (n - 1) = omega arith in
      ap₂ bit_xor (mod-eq_of_lt h) (ap (λ t. t % 2 * f) (div-eq_of_lt l) ∙ zero-mul f) ∙ xor_zero_r (a * 2)

  -- x^(j + 1) u = x (x^j u)
  pub pow_more : (j u : ℕ) → suc j < n → u < 2 ^ n → mul n f (2 ^ suc j) u ≡ times_x n f (mul n f (2 ^ j) u)
  pow_more j u h hu =
      let k : j < n = omega arith in
      ring.mul_comm n f fits wide (2 ^ suc j) u (pow-lt h) hu
      ∙ ap (mul n f u) (sym (ring.times_x_pow n f fits j h))
      ∙ ring.mul_times_x n f fits u (2 ^ j) (pow-lt k)
      ∙ ap (times_x n f) (ring.mul_comm n f fits wide u (2 ^ j) hu (pow-lt k))

  -- a shift that loses nothing is the product by a power of x
  pub shift_small : (j u : ℕ) → j < n → u < 2 ^ n → u * 2 ^ j < 2 ^ n → mul n f (2 ^ j) u ≡ u * 2 ^ j
  shift_small zero u h hu b = ring.mul_one_l n f fits wide u hu ∙ sym (mul-one u)
  shift_small (suc j) u h hu b =
      let e : u * 2 ^ suc j ≡ u * 2 ^ j * 2 = ap (λ t. u * t) (pow-suc 2 j) ∙ sym (times_assoc u (2 ^ j) 2) in
      let c : u * 2 ^ j * 2 < 2 ^ n = subst (λ t. t < 2 ^ n) e b in
      let k : j < n = omega arith in
      let d : u * 2 ^ j < 2 ^ n = omega arith in
      pow_more j u h hu ∙ ap (times_x n f) (shift_small j u k hu d) ∙ times_x_small (u * 2 ^ j) c ∙ sym e

  -- the first step: the highest bit goes to the place of x^n
  pub shift_first : (z u : ℕ) → suc z < n → u < 2 ^ n → 2 ^ (n - 1) ≤ u * 2 ^ z → u * 2 ^ z < 2 ^ n
      → mul n f (2 ^ suc z) u ≡ bit_xor (u * 2 ^ suc z % 2 ^ n) f
  shift_first z u h hu lo hi =
      let k : z < n = omega arith in
      let e : n ≡ suc (n - 1) = omega arith in
      let p : 2 ^ n ≡ 2 * 2 ^ (n - 1) = ap (λ k. 2 ^ k) e ∙ pow-suc 2 (n - 1) ∙ times_comm (2 ^ (n - 1)) 2 in
      let q : u * 2 ^ z / 2 ^ (n - 1) ≡ 1 = div-eq_of_lt-le (2 ^ (n - 1)) (omega (arith, one-mul (2 ^ (n - 1)))) (subst (λ t. u * 2 ^ z < t) p hi) in
      pow_more z u h hu
      ∙ ap (times_x n f) (shift_small z u k hu hi)
      ∙ sym (carried n f (u * 2 ^ z) q)
      ∙ ap (λ t. bit_xor (t % 2 ^ n) f) (times_assoc u (2 ^ z) 2 ∙ ap (λ t. u * t) (sym (pow-suc 2 z)))

  -- where the highest bit stands, by the zeros in front
  at_top : (d z u : ℕ) → z + suc d ≡ n → 2 ^ d ≤ u → u < 2 ^ suc d → (2 ^ (n - 1) ≤ u * 2 ^ z) × (u * 2 ^ z < 2 ^ n)
  at_top d z u e lo hi =
      let p : 2 ^ (n - 1) ≡ 2 ^ d * 2 ^ z = let k : n - 1 ≡ d + z = omega arith in ap (λ t. 2 ^ t) k ∙ pow-add 2 d z in
      let q : 2 ^ suc d * 2 ^ z ≡ 2 ^ n = let k : suc d + z ≡ n = omega arith in sym (pow-add 2 (suc d) z) ∙ ap (λ t. 2 ^ t) k in
      (le_trans (le_of_eq p) (mul-le-mul_right (2 ^ z) lo), lt_of_lt_of_le (mul-lt-mul_of_pos_right hi (pow_pos z)) (le_of_eq q))

  -- the division's first step: the modulus without x^n, and u moved up so far that its highest bit falls out
  pub divide_start : (u : ℕ) → 1 < u → u < 2 ^ n → bit_xor (u * 2 ^ (count_leading_zeros n u + 1) % 2 ^ n) f ≡ mul n f (2 ^ (count_leading_zeros n u + 1)) u
  divide_start u lo hi =
      let t = leading_top n u (omega arith) hi in
      let z : ℕ = count_leading_zeros n u in
      let e : z + 1 ≡ suc z = omega arith in
      let s : suc z < n = omega (arith, short_shift n u wide lo hi) in
      let b = at_top t.0 z u t.1 t.2 t.3 in
      subst (λ (k : ℕ). bit_xor (u * 2 ^ k % 2 ^ n) f ≡ mul n f (2 ^ k) u) (sym e) (sym (shift_first z u s hi b.0 b.1))
