-- The kinds whose elements are polynomials: their operations, by the numbers of the elements.
use Rattle.std.specs.Prelude.{ℕ, ◌/◌, ◌%◌, ◌^◌, cond, Some, None, ◌==◌, bit_xor}
use Rattle.std.proofs.Common.{mod-lt, pow_pos}
use Rattle.field.specs.Bytes as octets
use Rattle.field.specs.Field as field
use Rattle.arithmetic.specs.Facts.{Numbers}
use Rattle.poly.specs.Shorts.{short_numbers}
use Rattle.poly.specs.Wides.{number, wide_numbers}
use Rattle.poly.specs.declared.short.Short.{Short}
use Rattle.poly.specs.declared.wide.Wide.{Wide}
use Rattle.kind.specs.Laws.{Ops}

module _ {E : Type 0} (n f : ℕ) (value : E → ℕ) (e : Numbers n value) where
  -- the element of the lowest n bits of a number
  abbrev pub element : ℕ → E
  element v = e.make (v % 2 ^ n) (mod-lt v (pow_pos n))

  -- the kind of the polynomials of a degree below n, with the modulus x^n + f
  abbrev pub poly_ops : Ops E
  poly_ops = record {
    size = n / 8;
    zero = element 0;
    one = element 1;
    x = element 2;
    add = λ a b. element (bit_xor (value a) (value b));
    mul = λ a b. element (field.mul n f (value a) (value b));
    inverse = λ a. cond (value a == 0) None (Some (element (field.inverse n f (value a))));
    bytes = λ a. octets.bytes (n / 8) (value a);
    block = λ bs. element (octets.number bs);
  }

-- the short kind, x^64 + x^4 + x^3 + x + 1, and the wide kind, x^128 + x^7 + x^2 + x + 1
abbrev pub short_ops : Ops Short
short_ops = poly_ops 64 field.short_terms (λ s. s.word) short_numbers

abbrev pub wide_ops : Ops Wide
wide_ops = poly_ops 128 field.wide_terms number wide_numbers
