-- The laws as the contracts cite them, from the lemmas of the other files.
use Rattle.std.proofs.Common.{◌≡◌, ℕ, zero, suc, ◌+◌, ◌-◌, ◌*◌, ◌/◌, ◌%◌, ◌^◌, ◌<◌, ◌≤◌, List, [], ◌∷◌, length, get_or, sym, refl, ◌∙◌, mod-eq_of_lt, arith, lit<, pow_pos}
use lib.Bits.{bit_xor, xor_lt, xor_comm, xor_assoc, xor_zero_r, xor_self}
use lib.ListN.{length-map}
use lib.Pow.{pow-lt}
use Rattle.field.specs.Bytes.{ByteLaws}
use Rattle.field.specs.Field.{mul, short_terms, wide_terms}
use Rattle.field.specs.Laws.{RingLaws, FieldLaws, MaskLaws}
use Rattle.field.specs.Mask.{coefficients, by_rest, run, times, Apart, written, most_blocks}
use Rattle.field.proofs.Bytes as bytes
use Rattle.field.proofs.Degree.{degree_lt}
use Rattle.field.proofs.Kind64 as short
use Rattle.field.proofs.Kind128 as wide
use Rattle.field.proofs.Mask.{AllBelow, apart64, apart128, plain64, plain128}
use Rattle.field.proofs.MaskAt.{length_run}
use Rattle.field.proofs.MaskSum.{coefficients_zero}
use Rattle.field.proofs.Ring as ring

pub ring_laws : (n f : ℕ) → 1 < n → f < 2 ^ n → RingLaws n f
ring_laws n f wide fits =
    let two : 2 < 2 ^ n = pow-lt wide in
    record {
      add_lt = xor_lt n;
      add_comm = xor_comm;
      add_assoc = xor_assoc;
      add_zero = xor_zero_r;
      add_self = xor_self;
      mul_lt = ring.mul_lt n f fits;
      mul_comm = ring.mul_comm n f fits wide;
      mul_assoc = ring.mul_assoc n f fits wide;
      mul_one = ring.mul_one_r n f fits;
      distrib = ring.mul_linear_r n f fits;
      mul_x = λ a h. ring.mul_comm n f fits wide 2 a two h ∙ ring.mul_x n f fits wide a h;
      no_inverse = λ b p. let z : ◌≡◌ {A = ℕ} 0 1 = sym (ring.mul_zero_l n f fits wide b) ∙ p in omega arith;
      one_inverse = ring.one_inverse n f fits wide;
    }

-- a coefficient's bound, by place, is that of its degree
below_at : (b : ℕ) (l : List ℕ) (i : ℕ) → 0 < b → AllBelow b l → get_or l i 0 < b
below_at b [] i p h = p
below_at b (v ∷ vs) zero p h = h.1
below_at b (v ∷ vs) (suc i) p h = below_at b vs i p h.2

above_at : (b : ℕ) (l : List ℕ) (i : ℕ) → i < length l → AllBelow b l → 0 < get_or l i 0
above_at b [] i lt h = absurd (omega arith)
above_at b (v ∷ vs) zero lt h = h.0
above_at b (v ∷ vs) (suc i) lt h = above_at b vs i (omega arith) h.2

count_rest : {E : Type 0} (add : E → E → E) (φ : E → E) (one : E) (t r : ℕ) → r ≤ 2 → 1 ≤ t → length (by_rest add φ one t r) ≡ 3 * t + r
unfolding by_rest
count_rest add φ one t zero hr ht = omega (arith, length_run φ add one one t)
count_rest add φ one t (suc zero) hr ht = omega (arith, length-map (run add φ one (t - 1)) (times φ 3), length_run φ add one one (t - 1))
count_rest add φ one t (suc (suc zero)) hr ht = omega (arith, length-map (run add φ one (t - 1)) (times φ 4), length_run φ add one one (t - 1))
count_rest add φ one t (suc (suc (suc r))) hr ht = absurd (omega arith)

-- there are m coefficients
pub count : {E : Type 0} (add : E → E → E) (φ : E → E) (one : E) (m : ℕ) → 3 ≤ m → length (coefficients add φ one m) ≡ m
unfolding coefficients
count add φ one m h = count_rest add φ one (m / 3) (m % 3) (omega arith) (omega arith) ∙ omega arith

mask_laws : (n f : ℕ) → f < 2 ^ n → ((m : ℕ) → 3 ≤ m → m ≤ most_blocks → Apart (coefficients bit_xor (mul n f 2) 1 m))
    → ((m : ℕ) → 3 ≤ m → m ≤ most_blocks → (written m ≡ coefficients bit_xor (mul n f 2) 1 m) × AllBelow (2 ^ n) (written m)) → MaskLaws n f
mask_laws n f fits apart plain = record {
  sum = λ m. coefficients_zero bit_xor 0 (mul n f 2) xor_assoc (λ a. refl) xor_self (ring.mul_linear_r n f fits 2) 1 m;
  apart = apart;
  count = λ m lo. count bit_xor (λ a. a * 2) 1 m lo;
  nonzero = λ m i lo hi lt z. let p : 0 < get_or (written m) i 0 = above_at (2 ^ n) (written m) i (omega (arith, count bit_xor (λ a. a * 2) 1 m lo)) (plain m lo hi).1 in omega arith;
  degrees = λ m i d lo hi g. degree_lt n (get_or (written m) i 0) d (below_at (2 ^ n) (written m) i (pow_pos n) (plain m lo hi).1) g;
  unreduced = λ m lo hi. sym (plain m lo hi).0;
}

pub short_field : FieldLaws 64 short_terms
short_field = record { inverses = short.inverses; nonzero = short.product_nonzero }

pub wide_field : FieldLaws 128 wide_terms
wide_field = record { inverses = wide.inverses; nonzero = wide.product_nonzero }

pub short_masks : MaskLaws 64 short_terms
short_masks = mask_laws 64 short_terms (lit< tt) apart64 plain64

pub wide_masks : MaskLaws 128 wide_terms
wide_masks = mask_laws 128 wide_terms (lit< tt) apart128 plain128

pub byte_laws : ByteLaws
byte_laws = record {
  number_lt = bytes.number_lt;
  bytes_length = bytes.length_bytes;
  bytes_are = bytes.are_bytes;
  number_bytes = λ k v h. bytes.number_bytes k v ∙ mod-eq_of_lt h;
  bytes_number = bytes.bytes_number;
  number_sum = bytes.number_xors;
}
