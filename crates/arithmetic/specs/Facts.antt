-- What a kind of polynomials shows of its numbers: of its width n and of f, the low terms of its modulus x^n + f, and of the number of an element.
use Rattle.std.specs.Prelude.{◌≡◌, ℕ, ◌*◌, ◌/◌, ◌^◌, ◌<◌}
use Rattle.field.specs.Bytes.{Size}
use Rattle.field.specs.Laws.{FieldLaws, MaskLaws}

-- a width of whole bytes and an irreducible modulus of that degree
pub record Modulus (n f : ℕ) : Type 0 where
  pub fits : f < 2 ^ n
  pub wide : 1 < n
  pub broad : 8 < n
  pub few : n < 2 ^ 32
  pub octets : n ≡ 8 * (n / 8)
  pub sizes : Size (n / 8)
  pub laws : FieldLaws n f
  pub masks : MaskLaws n f

-- elements and numbers below 2^n correspond one to one
pub record Numbers {E : Type 0} (n : ℕ) (value : E → ℕ) : Type 0 where
  pub below : (e : E) → value e < 2 ^ n
  pub apart : (d e : E) → value d ≡ value e → d ≡ e
  pub make : (v : ℕ) → v < 2 ^ n → E
  pub made : (v : ℕ) (h : v < 2 ^ n) → value (make v h) ≡ v
