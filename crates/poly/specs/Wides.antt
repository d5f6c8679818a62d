-- The wide kind: two words of 64 bits, by their numbers.
use Rattle.std.specs.Prelude.{◌≡◌, refl, ℕ, ◌+◌, ◌*◌, ◌/◌, ◌%◌, ◌^◌, ◌<◌}
use Rattle.std.proofs.Common.{sym, ap, ◌∙◌, inl, inr, arith, lit<, shr_lt, pow_pos, mod-lt}
use mathlib.Core.HLevel.{is_prop→PathP}
use Rattle.std.proofs.Math.Bridge.{le_prop}
use Rattle.std.proofs.Math.Pow.{high, low, split}
use Rattle.field.specs.Field.{wide_terms}
use Rattle.field.proofs.Laws as laws
use Rattle.arithmetic.specs.Facts.{Modulus, Numbers}
use Rattle.poly.specs.declared.wide.Wide.{Wide}

-- the number of two words
abbrev pub number : Wide → ℕ
number w = w.high * 2 ^ 64 + w.low

pub wide_field : Modulus 128 wide_terms
wide_field = record { fits = lit< tt; wide = lit< tt; broad = lit< tt; few = lit< tt; octets = refl; sizes = inr (inl refl); laws = laws.wide_field; masks = laws.wide_masks }

pub wide_below : (e : Wide) → number e < 2 ^ 128
wide_below e = let h : e.high < 2 ^ 64 = e.highfits in let l : e.low < 2 ^ 64 = e.lowfits in omega arith

pub wide_apart : (d e : Wide) → number d ≡ number e → d ≡ e
wide_apart d e p =
    let h : d.high ≡ e.high = sym (high d.high 64 d.lowfits) ∙ ap (λ (n : ℕ). n / 2 ^ 64) p ∙ high e.high 64 e.lowfits in
    let l : d.low ≡ e.low = sym (low d.high 64 d.lowfits) ∙ ap (λ (n : ℕ). n % 2 ^ 64) p ∙ low e.high 64 e.lowfits in
    λ i. record {
      high = h i;
      low = l i;
      highfits = is_prop→PathP (λ j. h j < 2 ^ 64) (λ j. le_prop) d.highfits e.highfits i;
      lowfits = is_prop→PathP (λ j. l j < 2 ^ 64) (λ j. le_prop) d.lowfits e.lowfits i;
    }

unfoldable pub wide_numbers : Numbers 128 number
wide_numbers = record {
  below = wide_below;
  apart = wide_apart;
  make = λ v h. record { high = v / 2 ^ 64; low = v % 2 ^ 64; highfits = shr_lt 64 64 h; lowfits = mod-lt v (pow_pos 64) };
  made = λ v h. split v 64;
}

pub wide_same : (d e : Wide) → d.high ≡ e.high → d.low ≡ e.low → d ≡ e
wide_same d e h l = wide_apart d e (λ i. h i * 2 ^ 64 + l i)
