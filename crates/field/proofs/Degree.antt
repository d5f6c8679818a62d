-- Leading zeros give the degree, and a bound of a number is a bound of its degree.
use Rattle.std.proofs.Common.{◌≡◌, ℕ, suc, ◌+◌, ◌^◌, ◌<◌, ◌≤◌, ap, subst, arith, pow_mono}
use native.Mathlib.Decide.{dec_lt}
use lib.Count.{count_leading_zeros, leading_top, leading_of_zero}
use Rattle.field.specs.Degree.{Degree}

-- only zero has no place
pub no_places : (n v z : ℕ) → v < 2 ^ n → z ≡ count_leading_zeros n v → n ≤ z → v ≡ 0
no_places n v z h e le =
    elim (dec_lt 0 v) [
      | yes pos ↦ let t = leading_top n v pos h in absurd (omega (arith, t.1))
      | no g ↦ omega arith
    ]

pub zeros_degree : (n v z d : ℕ) → v < 2 ^ n → z ≡ count_leading_zeros n v → z + suc d ≡ n → Degree v d
zeros_degree n v z d h e s =
    elim (dec_lt 0 v) [
      | yes pos ↦
          let t = leading_top n v pos h in
          let i : t.0 ≡ d = omega (arith, t.1) in
          let j : suc t.0 ≡ d + 1 = omega arith in
          (subst (λ (k : ℕ). 2 ^ k ≤ v) i t.2, subst (λ (k : ℕ). v < 2 ^ k) j t.3)
      | no g ↦ let o : v ≡ 0 = omega arith in absurd (omega (arith, leading_of_zero n, ap (count_leading_zeros n) o))
    ]

pub degree_lt : (n v d : ℕ) → v < 2 ^ n → Degree v d → d < n
degree_lt n v d h g =
    elim (dec_lt d n) [
      | yes l ↦ l
      | no m ↦ let le : n ≤ d = omega arith in let p : 2 ^ n ≤ 2 ^ d = pow_mono le in absurd (omega (arith, g.0))
    ]

-- the degree zero is that of one alone
pub degree_zero : (v d : ℕ) → Degree v d → d ≡ 0 → v ≡ 1
degree_zero v d g e = let h : Degree v 0 = subst (Degree v) e g in omega (arith, h.0, h.1)

pub degree_above : (v d : ℕ) → Degree v d → 1 ≤ d → 1 < v
degree_above v d g h = let p : 2 ^ 1 ≤ 2 ^ d = pow_mono h in omega (arith, g.0)
