-- The steps of the inverse by division, over the width: of two multiples of an element, each with its factor, the one with the higher degree is brought below the other.
use Rattle.std.proofs.Common.{◌≡◌, ℕ, suc, ◌+◌, ◌-◌, ◌*◌, ◌/◌, ◌%◌, ◌^◌, ◌<◌, ◌≤◌, sym, ap, ◌∙◌, subst, ap₂, le_trans, le_of_eq, lt_of_lt_of_le, mul-le-mul_right, mod-eq_of_lt, mul-lt-mul_of_pos_right, one-mul, arith, pow_pos, pow_mono, pow-add}
use native.Mathlib.Nat.{div-eq_of_lt, div-eq_of_lt-le}
use native.Mathlib.Decide.{dec_lt}
use lib.Pow.{pow-lt, split}
use lib.Bits.{bit_xor, xor_lt, xor_shr}
use lib.Count.{count_leading_zeros, leading_top, leading_of_zero}
use Rattle.field.specs.Field.{mul}
use Rattle.field.specs.Window.{raise}
use Rattle.field.proofs.Ring as ring
use Rattle.field.proofs.Divide.{top_cancel, zeros_above}
use Rattle.field.proofs.Window.{raise_l}

-- a number keeps its highest bit when a smaller one is added
pub keeps_top : (k m t d : ℕ) → m ≡ k + 1 → 2 ^ k ≤ t → t < 2 ^ m → d < 2 ^ k → (2 ^ k ≤ bit_xor t d) × (bit_xor t d < 2 ^ m)
keeps_top k m t d next lo hi small =
    let p : 2 ^ m ≡ 2 ^ k * 2 = ap (λ (i : ℕ). 2 ^ i) next ∙ pow-add 2 k 1 in
    let q : t / 2 ^ k ≡ 1 = div-eq_of_lt-le (2 ^ k) (omega (arith, one-mul (2 ^ k))) (omega arith) in
    let e : bit_xor t d / 2 ^ k ≡ 1 = xor_shr t d k ∙ ap₂ bit_xor q (div-eq_of_lt small) in
    let s : 1 * 2 ^ k + bit_xor t d % 2 ^ k ≡ bit_xor t d = subst (λ (x : ℕ). x * 2 ^ k + bit_xor t d % 2 ^ k ≡ bit_xor t d) e (split (bit_xor t d) k) in
    (omega (arith, one-mul (2 ^ k)), xor_lt m t d hi (omega arith))

-- a shift by what is missing to the power
pub shift_lt : (g i j : ℕ) → g < 2 ^ i → g * 2 ^ j < 2 ^ (i + j)
shift_lt g i j h = lt_of_lt_of_le (mul-lt-mul_of_pos_right h (pow_pos j)) (le_of_eq (sym (pow-add 2 i j)))

pub shift_le : (g i j : ℕ) → 2 ^ i ≤ g → 2 ^ (i + j) ≤ g * 2 ^ j
shift_le g i j h = le_trans (le_of_eq (pow-add 2 i j)) (mul-le-mul_right (2 ^ j) h)

-- the highest bit of u under that of w: nothing is lost, and the sum has more zeros in front than w
pub under : (n u w j : ℕ) → 0 < u → u < 2 ^ n → w < 2 ^ n → count_leading_zeros n w ≤ count_leading_zeros n u → j ≡ count_leading_zeros n u - count_leading_zeros n w
    → (u * 2 ^ j < 2 ^ n) × (count_leading_zeros n w < count_leading_zeros n (bit_xor w (u * 2 ^ j)))
under n u w j pos hu hw le ej =
    let t = leading_top n u pos hu in
    let nz : 0 < w = elim (dec_lt 0 w) [
      | yes l ↦ l
      | no g ↦ let e : w ≡ 0 = omega arith in
          let zz : count_leading_zeros n w ≡ n = ap (count_leading_zeros n) e ∙ leading_of_zero n in omega (arith, t.1)
    ] in
    let s = leading_top n w nz hw in
    let k : t.0 + j ≡ s.0 = omega (arith, t.1, s.1) in
    let k' : suc t.0 + j ≡ suc s.0 = omega arith in
    let lo : 2 ^ s.0 ≤ u * 2 ^ j = subst (λ (i : ℕ). 2 ^ i ≤ u * 2 ^ j) k (shift_le u t.0 j t.2) in
    let hi : u * 2 ^ j < 2 ^ suc s.0 = subst (λ (i : ℕ). u * 2 ^ j < 2 ^ i) k' (shift_lt u (suc t.0) j t.3) in
    let sn : suc s.0 ≤ n = omega (arith, s.1) in (
      lt_of_lt_of_le hi (pow_mono sn),
      omega (arith, zeros_above n s.0 (bit_xor w (u * 2 ^ j)) (top_cancel s.0 w (u * 2 ^ j) s.2 s.3 lo hi) (omega arith), s.1),
    )

module _ (n f : ℕ) (fits : f < 2 ^ n) (wide : 1 < n) where
  one_lt : 1 < 2 ^ n
  one_lt = let p : 0 < n = omega arith in pow-lt p

  -- shifts that lose nothing keep a multiple and its factor together
  pub shifted_both : (u g a j : ℕ) → a < 2 ^ n → u * 2 ^ j < 2 ^ n → g * 2 ^ j < 2 ^ n → u < 2 ^ n → u ≡ mul n f g a → u * 2 ^ j ≡ mul n f (g * 2 ^ j) a
  shifted_both u g a j ha hu hg h e =
      sym (ring.mul_one_r n f fits (u * 2 ^ j) hu)
      ∙ raise_l n f fits wide j u 1 hu one_lt
      ∙ ap (raise n f j) (ring.mul_one_r n f fits u h ∙ e)
      ∙ sym (raise_l n f fits wide j g a hg ha)

  -- one step: the sums with what is moved up are a multiple and its factor again
  pub taken : (u g w t a j w' t' : ℕ) → a < 2 ^ n → u < 2 ^ n → u * 2 ^ j < 2 ^ n → g * 2 ^ j < 2 ^ n
      → w' ≡ bit_xor w (u * 2 ^ j % 2 ^ n) → t' ≡ bit_xor t (g * 2 ^ j % 2 ^ n) → u ≡ mul n f g a → w ≡ mul n f t a → w' ≡ mul n f t' a
  taken u g w t a j w' t' ha h hu hg ew et e d =
      ew ∙ ap₂ bit_xor d (mod-eq_of_lt hu ∙ shifted_both u g a j ha hu hg h e)
      ∙ sym (ring.mul_linear_l n f fits a t (g * 2 ^ j))
      ∙ ap (λ (x : ℕ). mul n f x a) (sym (et ∙ ap (bit_xor t) (mod-eq_of_lt hg)))
