-- The steps of the way down, on numbers: those of one division, and the first of the modulus' division.
use Rattle.std.proofs.Common.{◌≡◌, ℕ, ◌+◌, ◌-◌, ◌*◌, ◌%◌, ◌^◌, ◌<◌, ◌≤◌, sym, ap, ◌∙◌, subst, ap₂, le_refl, lt_of_lt_of_le, mod-eq_of_lt, one-mul, arith, pow_mono}
use lib.Bits.{bit_xor, xor_comm}
use lib.Count.{count_leading_zeros}
use lib.Pow.{pow-lt}
use Rattle.field.specs.Field.{mul}
use Rattle.field.proofs.Divide.{short_shift, divide_start}
use Rattle.field.proofs.Euclid.{keeps_top, shift_le, shift_lt, under}
use Rattle.arithmetic.specs.Descent.{Descent, Division}

-- s and its factor u, moved up by j, lose nothing and are taken from w and its factor, which leaves w' and t'
pub record Moved (n w s u j w' t' : ℕ) : Type 0 where
  pub element_fits : s * 2 ^ j < 2 ^ n
  pub factor_fits : u * 2 ^ j < 2 ^ n
  pub falls : count_leading_zeros n w < count_leading_zeros n w'
  pub division : Division n w' t' s u

module _ (n w t s u j w' t' : ℕ) (wide : 1 < n) (hs : s < 2 ^ n) (hw : w < 2 ^ n) (pos : 1 < s) (le : count_leading_zeros n w ≤ count_leading_zeros n s)
    (ej : j ≡ count_leading_zeros n s - count_leading_zeros n w) (ew : w' ≡ bit_xor w (s * 2 ^ j % 2 ^ n)) (et : t' ≡ bit_xor t (u * 2 ^ j % 2 ^ n)) where
  drop : (s * 2 ^ j < 2 ^ n) × (count_leading_zeros n w < count_leading_zeros n w')
  drop =
      let d = under n s w j (omega arith) hs hw le ej in
      (d.0, subst (λ (x : ℕ). count_leading_zeros n w < count_leading_zeros n x) (sym (ew ∙ ap (bit_xor w) (mod-eq_of_lt d.0))) d.1)

  -- the first step of a division
  pub first : Descent n w t s u → Moved n w s u j w' t'
  first h =
      let y : ℕ = count_leading_zeros n w in
      let z : ℕ = count_leading_zeros n s in
      let d = drop in
      let room : z + 2 ≤ n = omega (arith, short_shift n s wide pos hs) in
      let i₁ : y + 1 + j ≡ z + 1 = omega arith in
      let i₂ : y + 2 + j ≡ z + 2 = omega arith in
      let i₃ : y + 1 ≤ z + 1 = omega arith in
      let i₄ : y + 2 ≤ count_leading_zeros n w' + 1 = omega (arith, d.1) in
      let i₅ : y + 2 ≤ z + 1 = omega (arith, h.falls) in
      let lo : 2 ^ (z + 1) ≤ u * 2 ^ j = subst (λ (x : ℕ). 2 ^ x ≤ u * 2 ^ j) i₁ (shift_le u (y + 1) j h.under_le) in
      let hi : u * 2 ^ j < 2 ^ (z + 2) = subst (λ (x : ℕ). u * 2 ^ j < 2 ^ x) i₂ (shift_lt u (y + 2) j h.under_lt) in
      let fits : u * 2 ^ j < 2 ^ n = lt_of_lt_of_le hi (pow_mono room) in
      let m = keeps_top (z + 1) (z + 2) (u * 2 ^ j) t (omega arith) lo hi (lt_of_lt_of_le h.over_lt (pow_mono i₃)) in
      let e : bit_xor (u * 2 ^ j) t ≡ t' = xor_comm (u * 2 ^ j) t ∙ ap (bit_xor t) (sym (mod-eq_of_lt fits)) ∙ sym et in
      record {
        element_fits = d.0;
        factor_fits = fits;
        falls = d.1;
        division = record {
          under_left = lt_of_lt_of_le h.under_lt (pow_mono i₄);
          under_small = lt_of_lt_of_le h.under_lt (pow_mono i₅);
          factor_le = subst (λ (x : ℕ). 2 ^ (z + 1) ≤ x) e m.0;
          factor_lt = subst (λ (x : ℕ). x < 2 ^ (z + 2)) e m.1;
        };
      }

  -- each later one
  pub next : Division n w t s u → Moved n w s u j w' t'
  next h =
      let y : ℕ = count_leading_zeros n w in
      let z : ℕ = count_leading_zeros n s in
      let d = drop in
      let room : z + 1 ≤ n = omega (arith, short_shift n s wide pos hs) in
      let i₁ : y + 1 + j ≡ z + 1 = omega arith in
      let i₂ : y + 1 ≤ count_leading_zeros n w' + 1 = omega (arith, d.1) in
      let hi : u * 2 ^ j < 2 ^ (z + 1) = subst (λ (x : ℕ). u * 2 ^ j < 2 ^ x) i₁ (shift_lt u (y + 1) j h.under_left) in
      let fits : u * 2 ^ j < 2 ^ n = lt_of_lt_of_le hi (pow_mono room) in
      let m = keeps_top (z + 1) (z + 2) t (u * 2 ^ j) (omega arith) h.factor_le h.factor_lt hi in
      let e : bit_xor t (u * 2 ^ j) ≡ t' = ap (bit_xor t) (sym (mod-eq_of_lt fits)) ∙ sym et in
      record {
        element_fits = d.0;
        factor_fits = fits;
        falls = d.1;
        division = record {
          under_left = lt_of_lt_of_le h.under_left (pow_mono i₂);
          under_small = h.under_small;
          factor_le = subst (λ (x : ℕ). 2 ^ (z + 1) ≤ x) e m.0;
          factor_lt = subst (λ (x : ℕ). x < 2 ^ (z + 2)) e m.1;
        };
      }

-- the first step of the modulus' division: its low terms l with the factor o, zero, and the divisor s with the factor u, one
module _ (n f l o s u j w t : ℕ) (fits : f < 2 ^ n) (wide : 1 < n) (pos : 1 < s) (hs : s < 2 ^ n) (el : l ≡ f) (eo : o ≡ 0) (eu : u ≡ 1)
    (ej : j ≡ count_leading_zeros n s + 1) (ew : w ≡ bit_xor l (s * 2 ^ j % 2 ^ n)) (et : t ≡ bit_xor o (u * 2 ^ j % 2 ^ n)) where
  quotient : t ≡ 2 ^ (count_leading_zeros n s + 1)
  quotient =
      let h : j < n = omega (arith, short_shift n s wide pos hs) in
      et ∙ ap₂ (λ (a b : ℕ). bit_xor a (b * 2 ^ j % 2 ^ n)) eo eu ∙ ap (λ (a : ℕ). a % 2 ^ n) (one-mul (2 ^ j)) ∙ mod-eq_of_lt (pow-lt h) ∙ ap (λ (i : ℕ). 2 ^ i) ej

  pub begun : Division n w t s u
  begun =
      let z : ℕ = count_leading_zeros n s in
      let below : (k : ℕ) → u < 2 ^ (k + 1) = λ k. let h : 0 < k + 1 = omega arith in subst (λ (x : ℕ). x < 2 ^ (k + 1)) (sym eu) (pow-lt h) in
      let h : z + 1 < z + 2 = omega arith in
      record {
        under_left = below (count_leading_zeros n w);
        under_small = below z;
        factor_le = subst (λ (x : ℕ). 2 ^ (z + 1) ≤ x) (sym quotient) (le_refl (2 ^ (z + 1)));
        factor_lt = subst (λ (x : ℕ). x < 2 ^ (z + 2)) (sym quotient) (pow-lt h);
      }

  pub begun_product : w ≡ mul n f t s
  begun_product =
      ew ∙ ap₂ (λ (a i : ℕ). bit_xor a (s * 2 ^ i % 2 ^ n)) el ej ∙ xor_comm f (s * 2 ^ (count_leading_zeros n s + 1) % 2 ^ n)
      ∙ divide_start n f fits wide s pos hs ∙ ap (λ (a : ℕ). mul n f a s) (sym quotient)
