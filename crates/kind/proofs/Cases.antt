-- The worked cases of the arithmetic: computed on numbers, and carried over to the elements.
use Rattle.std.proofs.Common.{◌≡◌, ℕ, List, [], ◌∷◌, map, Some, sym, refl, ◌∙◌, ap₂, arith}
use lib.Bits.{bit_xor}
use Rattle.field.specs.Bytes as octets
use Rattle.field.specs.Field.{times_x, combine, powers, mul, short_terms, wide_terms}
use Rattle.field.specs.Mask.{times, singles, pairs, run, by_rest, coefficients}
use Rattle.arithmetic.specs.Facts.{Numbers}
use Rattle.poly.specs.Shorts.{short_field, short_numbers}
use Rattle.poly.specs.Wides.{number, wide_field, wide_numbers}
use Rattle.poly.specs.declared.short.Short.{Short}
use Rattle.poly.specs.declared.wide.Wide.{Wide}
use Rattle.kind.specs.Laws.{bin, mask_coefficients}
use Rattle.kind.specs.Polynomials.{short_ops, wide_ops}
use Rattle.kind.specs.Cases.{CoefficientCases, ArithmeticCases}
use Rattle.kind.specs.PolynomialsLemmas as polynomials

-- elements with equal numbers are equal
list_apart : {E : Type 0} (n : ℕ) (value : E → ℕ) → Numbers n value → (ds es : List E) → map value ds ≡ map value es → ds ≡ es
list_apart n value e [] [] p = refl
list_apart n value e [] (b ∷ es) p = let z : ◌≡◌ {A = ℕ} 0 1 = cc in absurd (omega arith)
list_apart n value e (a ∷ ds) [] p = let z : ◌≡◌ {A = ℕ} 0 1 = cc in absurd (omega arith)
list_apart n value e (a ∷ ds) (b ∷ es) p =
    let q : value a ≡ value b = cc in
    let r : map value ds ≡ map value es = cc in
    ap₂ ◌∷◌ (e.apart a b q) (list_apart n value e ds es r)

abbrev word : Short → ℕ
word s = s.word

short_list : (m : ℕ) (ks : List Short) → coefficients bit_xor (mul 64 short_terms 2) 1 m ≡ map word ks → mask_coefficients short_ops m ≡ ks
short_list m ks p = list_apart 64 word short_numbers (mask_coefficients short_ops m) ks (polynomials.v_coefficients 64 short_terms word short_field short_numbers m ∙ p)

wide_list : (m : ℕ) (ks : List Wide) → coefficients bit_xor (mul 128 wide_terms 2) 1 m ≡ map number ks → mask_coefficients wide_ops m ≡ ks
wide_list m ks p = list_apart 128 number wide_numbers (mask_coefficients wide_ops m) ks (polynomials.v_coefficients 128 wide_terms number wide_field wide_numbers m ∙ p)

pub short_coefficients : CoefficientCases short_ops
unfolding times_x combine powers mul times singles pairs run by_rest coefficients short_numbers octets.bytes octets.number
short_coefficients = record { three = short_list 3 _ refl; four = short_list 4 _ refl; five = short_list 5 _ refl; seven = short_list 7 _ refl }

pub wide_coefficients : CoefficientCases wide_ops
unfolding times_x combine powers mul times singles pairs run by_rest coefficients wide_numbers octets.bytes octets.number
wide_coefficients = record { three = wide_list 3 _ refl; four = wide_list 4 _ refl; five = wide_list 5 _ refl; seven = wide_list 7 _ refl }

pub arithmetic_cases : ArithmeticCases
unfolding times_x combine powers mul short_numbers wide_numbers octets.bytes octets.number
arithmetic_cases = record {
  short_x = short_numbers.apart _ _ refl;
  wide_x = wide_numbers.apart _ _ refl;
  short_product = short_numbers.apart _ _ refl;
  wide_product = wide_numbers.apart _ _ refl;
  short_inverse = sym (polynomials.is_inverse 64 short_terms word short_field short_numbers short_ops.x (Some (bin short_ops 0x8000_0000_0000_000d)) refl);
  wide_inverse = sym (polynomials.is_inverse 128 wide_terms number wide_field wide_numbers wide_ops.x (Some (bin wide_ops 0x8000_0000_0000_0000_0000_0000_0000_0043)) refl);
  short_coefficients = short_coefficients;
  wide_coefficients = wide_coefficients;
}
