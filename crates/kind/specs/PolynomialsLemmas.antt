-- The laws of the kinds of polynomials.
use Rattle.std.specs.Prelude.{◌≡◌, ℕ, zero, suc, ◌*◌, ◌/◌, ◌%◌, ◌^◌, ◌<◌, ◌≤◌, Bool, true, false, cond, ◌≢◌, List, [], ◌∷◌, map, length, Some, None, Option, MatchOption, ◌==◌, bit_xor, refl}
use Rattle.std.proofs.Common.{sym, ap, ap₂, ◌∙◌, subst, mod-eq_of_lt, mod-lt, arith, pow_pos, eqb-true}
use Rattle.std.specs.Int.Bits.{xor_zero_r, xor_assoc, xor_self}
use Rattle.std.proofs.lemmas.Nat.{xor_lt, xor_comm}
use Rattle.std.proofs.Math.Nat.{mul-div_cancel}
use Rattle.std.proofs.Math.Pow.{pow-lt}
use Rattle.field.specs.Bytes as octets
use Rattle.field.specs.Field as field
use Rattle.field.proofs.Bytes as bytes
use Rattle.field.proofs.Ring as ring
use Rattle.arithmetic.specs.Facts.{Modulus, Numbers}
use Rattle.field.specs.Mask.{coefficients, Apart}
use Rattle.field.proofs.MaskMap.{coefficients_map, apart_back}
use Rattle.kind.specs.Laws.{Ops, Laws, Bytes, mask_coefficients, most_blocks}
use Rattle.kind.specs.Polynomials.{poly_ops, element}

-- the two ways to say that a list is of bytes
pub to_octets : (bs : List ℕ) → Bytes bs → octets.Bytes bs
to_octets [] h = tt
to_octets (b ∷ bs) h = (h 0, to_octets bs (λ i. h (suc i)))

pub from_octets : (bs : List ℕ) → octets.Bytes bs → Bytes bs
from_octets [] h i = omega arith
from_octets (b ∷ bs) h zero = h.0
from_octets (b ∷ bs) h (suc i) = from_octets bs h.1 i

length_xors : (l m : List ℕ) → length l ≡ length m → length (octets.xors l m) ≡ length l
unfolding octets.xors
length_xors [] m e = refl
length_xors (a ∷ l) [] e = absurd (omega arith)
length_xors (a ∷ l) (b ∷ m) e = ap suc (length_xors l m (omega arith))

xors_bytes : (l m : List ℕ) → octets.Bytes l → octets.Bytes m → octets.Bytes (octets.xors l m)
unfolding octets.xors
xors_bytes [] m p q = tt
xors_bytes (a ∷ l) [] p q = tt
xors_bytes (a ∷ l) (b ∷ m) p q = (xor_lt 8 a b p.0 q.0, xors_bytes l m p.1 q.1)

eqb_zero : (v : ℕ) → v ≢ 0 → (v == 0) ≡ false
eqb_zero v h = by (v == 0) refl
  where
    by : (b : Bool) → (v == 0) ≡ b → b ≡ false
    by true e = absurd (h (eqb-true v 0 e))
    by false e = refl

module _ {E : Type 0} (n f : ℕ) (value : E → ℕ) (m : Modulus n f) (e : Numbers n value) where
  abbrev o : Ops E
  o = poly_ops n f value e

  -- the number of an element, and the element of a number
  pub value_of : (v : ℕ) → v < 2 ^ n → value (element n f value e v) ≡ v
  value_of v h = e.made (v % 2 ^ n) (mod-lt v (pow_pos n)) ∙ mod-eq_of_lt h

  pub is_element : (r : E) (v : ℕ) → value r ≡ v → r ≡ element n f value e v
  is_element r v p = e.apart r (element n f value e v) (p ∙ sym (value_of v (subst (λ t. t < 2 ^ n) p (e.below r))))

  pub v_zero : value o.zero ≡ 0
  v_zero = value_of 0 (pow_pos n)

  pub v_one : value o.one ≡ 1
  v_one = value_of 1 (let w : 1 < n = m.wide in let p : 0 < n = omega arith in pow-lt p)

  pub v_x : value o.x ≡ 2
  v_x = value_of 2 (pow-lt m.wide)

  pub v_add : (a b : E) → value (o.add a b) ≡ bit_xor (value a) (value b)
  v_add a b = value_of _ (xor_lt n (value a) (value b) (e.below a) (e.below b))

  pub v_mul : (a b : E) → value (o.mul a b) ≡ field.mul n f (value a) (value b)
  v_mul a b = value_of _ (ring.mul_lt n f m.fits (value a) (value b) (e.below b))

  v_by_x : (a : E) → value (o.mul o.x a) ≡ field.mul n f 2 (value a)
  v_by_x a = v_mul o.x a ∙ ap (λ t. field.mul n f t (value a)) v_x

  pub is_double : (a r : E) → value r ≡ field.times_x n f (value a) → r ≡ o.mul o.x a
  is_double a r h =
      e.apart r (o.mul o.x a)
      (h ∙ sym (ring.mul_x n f m.fits m.wide (value a) (e.below a))
      ∙ ring.mul_comm n f m.fits m.wide (value a) 2 (e.below a) (pow-lt m.wide) ∙ sym (v_by_x a))

  -- the numbers of the mask coefficients
  pub v_coefficients : (k : ℕ) → map value (mask_coefficients o k) ≡ coefficients bit_xor (field.mul n f 2) 1 k
  v_coefficients k =
      coefficients_map value o.add bit_xor (o.mul o.x) (field.mul n f 2) v_add v_by_x o.one k ∙ ap (λ t. coefficients bit_xor (field.mul n f 2) t k) v_one

  masks : (k : ℕ) → 3 ≤ k → k ≤ most_blocks → Apart (mask_coefficients o k)
  masks k lo hi = apart_back value (mask_coefficients o k) (subst Apart (sym (v_coefficients k)) (m.masks.apart k lo hi))

  wide : (v : ℕ) → v < 2 ^ n → v < 2 ^ (8 * (n / 8))
  wide v h = subst (λ k. v < 2 ^ k) m.octets h

  number_bytes : (v : ℕ) → v < 2 ^ n → octets.number (octets.bytes (n / 8) v) ≡ v
  number_bytes v h = bytes.number_bytes (n / 8) v ∙ mod-eq_of_lt (wide v h)

  pub is_bin : (r : E) (c : ℕ) → value r ≡ c → r ≡ element n f value e (octets.number (octets.bytes (n / 8) c))
  is_bin r c p = is_element r _ (p ∙ sym (number_bytes c (subst (λ t. t < 2 ^ n) p (e.below r))))

  -- the inverse
  inverse_at : (a : E) → value a ≢ 0 → (field.mul n f (value a) (value (element n f value e (field.inverse n f (value a)))) ≡ 1)
  inverse_at a h =
      let i = m.laws.inverses (value a) (e.below a) h in
      ap (field.mul n f (value a)) (value_of _ i.0) ∙ i.1

  some_at : (a : E) → value a ≢ 0 → o.inverse a ≡ Some (element n f value e (field.inverse n f (value a)))
  some_at a h = ap (λ t. cond t None (Some (element n f value e (field.inverse n f (value a))))) (eqb_zero (value a) h)

  none_at : (a : E) → value a ≡ 0 → o.inverse a ≡ None
  none_at a h = ap (λ (t : ℕ). cond (t == 0) None (Some (element n f value e (field.inverse n f (value a))))) h

  zero_product : (v : ℕ) → field.mul n f 0 v ≢ 1
  zero_product v p = let z : ◌≡◌ {A = ℕ} 0 1 = sym (ring.mul_zero_l n f m.fits m.wide v) ∙ p in omega arith

  pub is_inverse : (a : E) (r : Option E) → MatchOption r (value a ≡ 0) (λ b. field.mul n f (value a) (value b) ≡ 1) → r ≡ o.inverse a
  is_inverse a None p = sym (none_at a p)
  is_inverse a (Some b) p =
      let h : value a ≢ 0 = λ z. zero_product (value b) (ap (λ t. field.mul n f t (value b)) (sym z) ∙ p) in
      ap Some (e.apart b _ (ring.one_inverse n f m.fits m.wide (value a) (value b) _ (e.below a) (e.below b) (e.below _) p (inverse_at a h))) ∙ sym (some_at a h)

  inverse_none : (a : E) → o.inverse a ≡ None → a ≡ o.zero
  inverse_none a p = by (value a == 0) refl p
    where
      by : (b : Bool) → (value a == 0) ≡ b → cond b None (Some (element n f value e (field.inverse n f (value a)))) ≡ None → a ≡ o.zero
      by true h p = is_element a 0 (eqb-true (value a) 0 h)
      by false h p = let z : ◌≡◌ {A = ℕ} 0 1 = cc in absurd (omega arith)

  inverse_some : (a b : E) → o.inverse a ≡ Some b → o.mul a b ≡ o.one
  inverse_some a b p = by (value a) refl p
    where
      by : (v : ℕ) → value a ≡ v → cond (v == 0) None (Some (element n f value e (field.inverse n f (value a)))) ≡ Some b → o.mul a b ≡ o.one
      by zero h p = let z : ◌≡◌ {A = ℕ} 0 1 = cc in absurd (omega arith)
      by (suc v) h p =
          let q : value a ≢ 0 = λ z. let w : ◌≡◌ {A = ℕ} 0 (suc v) = sym z ∙ h in omega arith in
          let r : Some (element n f value e (field.inverse n f (value a))) ≡ Some b = sym (some_at a q) ∙ ap (λ (t : ℕ). cond (t == 0) None (Some (element n f value e (field.inverse n f (value a))))) h ∙ p in
          let s : element n f value e (field.inverse n f (value a)) ≡ b = cc in
          subst (λ t. o.mul a t ≡ o.one) s (is_element _ 1 (v_mul a _ ∙ inverse_at a q))

  bytes_block : (bs : List ℕ) → length bs ≡ n / 8 → Bytes bs → o.bytes (o.block bs) ≡ bs
  bytes_block bs l h =
      let t = to_octets bs h in
      let b : octets.number bs < 2 ^ n = subst (λ k. octets.number bs < 2 ^ k) (ap (λ k. 8 * k) l ∙ sym m.octets) (bytes.number_lt bs t) in
      ap (octets.bytes (n / 8)) (value_of (octets.number bs) b) ∙ ap (λ k. octets.bytes k (octets.number bs)) (sym l) ∙ bytes.bytes_number bs t

  bytes_add : (a b : E) → o.bytes (o.add a b) ≡ octets.xors (o.bytes a) (o.bytes b)
  bytes_add a b =
      let la = bytes.length_bytes (n / 8) (value a) in
      let lb = bytes.length_bytes (n / 8) (value b) in
      let ba = bytes.are_bytes (n / 8) (value a) in
      let bb = bytes.are_bytes (n / 8) (value b) in
      bytes.number_apart (o.bytes (o.add a b)) (octets.xors (o.bytes a) (o.bytes b))
      (bytes.length_bytes (n / 8) _ ∙ sym (length_xors (o.bytes a) (o.bytes b) (la ∙ sym lb) ∙ la))
      (bytes.are_bytes (n / 8) _) (xors_bytes (o.bytes a) (o.bytes b) ba bb)
      (number_bytes _ (e.below _) ∙ v_add a b
      ∙ sym (bytes.number_xors (o.bytes a) (o.bytes b) (la ∙ sym lb) ba bb ∙ ap₂ bit_xor (number_bytes (value a) (e.below a)) (number_bytes (value b) (e.below b))))

  pub poly_laws : Laws o
  poly_laws =
      record {
        sizes = m.sizes;
        add_comm = λ a b. e.apart _ _ (v_add a b ∙ xor_comm (value a) (value b) ∙ sym (v_add b a));
        add_assoc = λ a b c. e.apart _ _
            (v_add (o.add a b) c ∙ ap (λ t. bit_xor t (value c)) (v_add a b) ∙ xor_assoc (value a) (value b) (value c)
            ∙ ap (bit_xor (value a)) (sym (v_add b c)) ∙ sym (v_add a (o.add b c)));
        add_zero = λ a. e.apart _ _ (v_add a o.zero ∙ ap (bit_xor (value a)) v_zero ∙ xor_zero_r (value a));
        add_self = λ a. e.apart _ _ (v_add a a ∙ xor_self (value a) ∙ sym v_zero);
        mul_comm = λ a b. e.apart _ _ (v_mul a b ∙ ring.mul_comm n f m.fits m.wide (value a) (value b) (e.below a) (e.below b) ∙ sym (v_mul b a));
        mul_assoc = λ a b c. e.apart _ _
            (v_mul (o.mul a b) c ∙ ap (λ t. field.mul n f t (value c)) (v_mul a b)
            ∙ ring.mul_assoc n f m.fits m.wide (value a) (value b) (value c) (e.below a) (e.below b) (e.below c)
            ∙ ap (field.mul n f (value a)) (sym (v_mul b c)) ∙ sym (v_mul a (o.mul b c)));
        mul_one = λ a. e.apart _ _ (v_mul a o.one ∙ ap (field.mul n f (value a)) v_one ∙ ring.mul_one_r n f m.fits (value a) (e.below a));
        distrib = λ a b c. e.apart _ _
            (v_mul a (o.add b c) ∙ ap (field.mul n f (value a)) (v_add b c) ∙ ring.mul_linear_r n f m.fits (value a) (value b) (value c)
            ∙ sym (v_add (o.mul a b) (o.mul a c) ∙ ap₂ bit_xor (v_mul a b) (v_mul a c)));
        inverse_zero = none_at _ v_zero;
        inverse_none = inverse_none;
        inverse_some = inverse_some;
        bytes_length = λ a. bytes.length_bytes (n / 8) (value a);
        bytes_bytes = λ a. from_octets _ (bytes.are_bytes (n / 8) (value a));
        block_bytes = λ a. sym (is_element a _ (sym (number_bytes (value a) (e.below a))));
        bytes_block = bytes_block;
        bytes_add = bytes_add;
        masks = masks;
      }

-- a kind whose elements have b bytes has the size b
pub size_of : (b n : ℕ) → b * 8 ≡ n → b ≡ n / 8
size_of b n e = sym (mul-div_cancel b (omega arith)) ∙ ap (λ k. k / 8) e
