-- Linear maps over the numbers' bits: a linear map is decided by its values at the powers of two.
use Rattle.std.proofs.Common.{◌≡◌, ℕ, zero, suc, ◌*◌, ◌/◌, ◌%◌, ◌<◌, List, [], ◌∷◌, map, sym, refl, ap, ◌∙◌, ap₂, add-zero, mod-lt, one-mul, zero-mul, arith, lit<}
use lib.Bits.{bit_xor, xor_mod, xor_shr, xor_block, xor_assoc, xor_comm, xor_self, xor_zero_r}
use Rattle.field.specs.Field.{combine}

abbrev pub Linear : (ℕ → ℕ) → Type 0
Linear φ = (u v : ℕ) → φ (bit_xor u v) ≡ bit_xor (φ u) (φ v)

pub linear_zero : (φ : ℕ → ℕ) → Linear φ → φ 0 ≡ 0
linear_zero φ h = h 0 0 ∙ xor_self (φ 0)

-- (a + b) + (c + d) = (a + c) + (b + d)
pub xor_swap : (a b c d : ℕ) → bit_xor (bit_xor a b) (bit_xor c d) ≡ bit_xor (bit_xor a c) (bit_xor b d)
xor_swap a b c d =
    xor_assoc a b (bit_xor c d)
    ∙ ap (bit_xor a) (sym (xor_assoc b c d) ∙ ap (λ x. bit_xor x d) (xor_comm b c) ∙ xor_assoc c b d)
    ∙ sym (xor_assoc a c (bit_xor b d))

pub xor_cancel : (a b : ℕ) → bit_xor a (bit_xor a b) ≡ b
xor_cancel a b = sym (xor_assoc a a b) ∙ ap (λ x. bit_xor x b) (xor_self a)

-- equal elements have the sum zero, and only they
pub xor_zero_eq : (a b : ℕ) → bit_xor a b ≡ 0 → a ≡ b
xor_zero_eq a b h = sym (xor_zero_r a) ∙ ap (bit_xor a) (sym h) ∙ xor_cancel a b

pub bit_lt : (v : ℕ) → v % 2 < 2
bit_lt v = mod-lt v (lit< tt)

-- a bit times an element, linear in either
pub bits_times : (s t a : ℕ) → s < 2 → t < 2 → bit_xor s t * a ≡ bit_xor (s * a) (t * a)
bits_times zero t a hs ht = sym (ap (λ x. bit_xor x (t * a)) (zero-mul a))
bits_times (suc zero) zero a hs ht = sym (ap (λ x. bit_xor (1 * a) x) (zero-mul a) ∙ xor_zero_r (1 * a))
bits_times (suc zero) (suc zero) a hs ht = zero-mul a ∙ sym (xor_self (1 * a))
bits_times (suc zero) (suc (suc t)) a hs ht = omega arith
bits_times (suc (suc s)) t a hs ht = omega arith

pub bit_linear : (φ : ℕ → ℕ) → Linear φ → (t a : ℕ) → t < 2 → φ (t * a) ≡ t * φ a
bit_linear φ h zero a ht = ap φ (zero-mul a) ∙ linear_zero φ h ∙ sym (zero-mul (φ a))
bit_linear φ h (suc zero) a ht = ap φ (one-mul a) ∙ sym (one-mul (φ a))
bit_linear φ h (suc (suc t)) a ht = omega arith

pub bit_times_linear : (t : ℕ) → t < 2 → Linear (λ a. t * a)
bit_times_linear zero ht u v = zero-mul (bit_xor u v) ∙ sym (ap₂ bit_xor (zero-mul u) (zero-mul v))
bit_times_linear (suc zero) ht u v = one-mul (bit_xor u v) ∙ sym (ap₂ bit_xor (one-mul u) (one-mul v))
bit_times_linear (suc (suc t)) ht u v = omega arith

pub double_linear : Linear (λ a. a * 2)
double_linear u v = simp add-zero at (sym (xor_block 1 u v 0 0 (lit< tt) (lit< tt)))

pub combine_linear : (ts : List ℕ) → Linear (combine ts)
unfolding combine
combine_linear [] u v = refl
combine_linear (t ∷ ts) u v =
    ap₂ bit_xor
    (ap (λ x. x * t) (xor_mod u v 1) ∙ bits_times (u % 2) (v % 2) t (bit_lt u) (bit_lt v))
    (ap (combine ts) (xor_shr u v 1) ∙ combine_linear ts (u / 2) (v / 2))
    ∙ xor_swap (u % 2 * t) (v % 2 * t) (combine ts (u / 2)) (combine ts (v / 2))

-- a linear map goes through a sum of picked elements
pub combine_map : (φ : ℕ → ℕ) → Linear φ → (ts : List ℕ) (v : ℕ) → φ (combine ts v) ≡ combine (map φ ts) v
unfolding combine
combine_map φ h [] v = linear_zero φ h
combine_map φ h (t ∷ ts) v =
    h (v % 2 * t) (combine ts (v / 2))
    ∙ ap₂ bit_xor (bit_linear φ h (v % 2) t (bit_lt v)) (combine_map φ h ts (v / 2))
