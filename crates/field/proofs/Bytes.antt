-- Numbers below 2^(8 k) and rows of k bytes correspond one to one, and the sum goes over.
use Rattle.std.proofs.Common.{◌≡◌, ℕ, zero, suc, ◌+◌, ◌*◌, ◌/◌, ◌%◌, ◌^◌, ◌<◌, List, [], ◌∷◌, length, sym, refl, ap, ◌∙◌, subst, ap₂, mul-le-mul_right, mod-lt, mod-eq_of_lt, add-mul, arith, lit<, pow-add}
use native.Mathlib.Nat.{mod-one}
use lib.Pow.{mod-pow-add, high, low}
use lib.Bits.{bit_xor, xor_block}
use Rattle.field.specs.Bytes.{number, bytes, Bytes, xors}

eights : (k : ℕ) → 2 ^ (8 * suc k) ≡ 2 ^ 8 * 2 ^ (8 * k)
eights k = let e : 8 * suc k ≡ 8 + 8 * k = omega arith in ap (λ n. 2 ^ n) e ∙ pow-add 2 8 (8 * k)

pub number_lt : (l : List ℕ) → Bytes l → number l < 2 ^ (8 * length l)
unfolding number
number_lt [] t = lit< tt
number_lt (b ∷ bs) t =
    let h : b < 256 = t.0 in
    let p = number_lt bs t.1 in
    let e = eights (length bs) in
    omega (arith, add-mul b 1 (2 ^ (8 * length bs)), mul-le-mul_right (2 ^ (8 * length bs)) h)

pub number_bytes : (k v : ℕ) → number (bytes k v) ≡ v % 2 ^ (8 * k)
unfolding number bytes
number_bytes zero v = sym (mod-one v)
number_bytes (suc k) v =
    let e : 8 + 8 * k ≡ 8 * suc k = omega arith in
    ap₂ (λ n r. v / 2 ^ (8 * k) % 256 * 2 ^ (8 * n) + r) (length_bytes k v) (number_bytes k v)
    ∙ sym (mod-pow-add v 8 (8 * k)) ∙ ap (λ n. v % 2 ^ n) e
  where
    length_bytes : (k v : ℕ) → length (bytes k v) ≡ k
    length_bytes zero v = refl
    length_bytes (suc k) v = ap suc (length_bytes k v)

pub number_xors : (l m : List ℕ) → length l ≡ length m → Bytes l → Bytes m → number (xors l m) ≡ bit_xor (number l) (number m)
unfolding number xors
number_xors [] m e tl tm = sym (ap (bit_xor 0) (zero_number m e))
  where
    zero_number : (m : List ℕ) → 0 ≡ length m → number m ≡ 0
    zero_number [] e = refl
    zero_number (b ∷ bs) e = omega arith
number_xors (a ∷ l) [] e tl tm = omega arith
number_xors (a ∷ l) (b ∷ m) e tl tm =
    let k : length l ≡ length m = omega arith in
    let hm : number m < 2 ^ (8 * length l) = subst (λ (n : ℕ). number m < 2 ^ (8 * n)) (sym k) (number_lt m tm.1) in
    ap₂ (λ n r. bit_xor a b * 2 ^ (8 * n) + r) (length_xors l m k) (number_xors l m k tl.1 tm.1)
    ∙ sym (xor_block (8 * length l) a b (number l) (number m) (number_lt l tl.1) hm)
    ∙ ap (λ n. bit_xor (a * 2 ^ (8 * length l) + number l) (b * 2 ^ (8 * n) + number m)) k
  where
    length_xors : (l m : List ℕ) → length l ≡ length m → length (xors l m) ≡ length l
    length_xors [] m e = refl
    length_xors (a ∷ l) [] e = omega arith
    length_xors (a ∷ l) (b ∷ m) e = ap suc (length_xors l m (omega arith))

pub number_apart : (l m : List ℕ) → length l ≡ length m → Bytes l → Bytes m → number l ≡ number m → l ≡ m
unfolding number
number_apart [] [] e tl tm p = refl
number_apart [] (b ∷ m) e tl tm p = absurd (omega arith)
number_apart (a ∷ l) [] e tl tm p = absurd (omega arith)
number_apart (a ∷ l) (b ∷ m) e tl tm p =
    let k : length l ≡ length m = omega arith in
    let w : ℕ = 8 * length l in
    let hm : number m < 2 ^ w = subst (λ (n : ℕ). number m < 2 ^ (8 * n)) (sym k) (number_lt m tm.1) in
    let q : a * 2 ^ w + number l ≡ b * 2 ^ w + number m = p ∙ ap (λ (n : ℕ). b * 2 ^ (8 * n) + number m) (sym k) in
    ap₂ (λ c cs. c ∷ cs)
    (sym (high a w (number_lt l tl.1)) ∙ ap (λ (n : ℕ). n / 2 ^ w) q ∙ high b w hm)
    (number_apart l m k tl.1 tm.1 (sym (low a w (number_lt l tl.1)) ∙ ap (λ (n : ℕ). n % 2 ^ w) q ∙ low b w hm))

pub are_bytes : (k v : ℕ) → Bytes (bytes k v)
unfolding bytes
are_bytes zero v = tt
are_bytes (suc k) v = (mod-lt (v / 2 ^ (8 * k)) (lit< tt), are_bytes k v)

pub length_bytes : (k v : ℕ) → length (bytes k v) ≡ k
unfolding bytes
length_bytes zero v = refl
length_bytes (suc k) v = ap suc (length_bytes k v)

pub bytes_number : (l : List ℕ) → Bytes l → bytes (length l) (number l) ≡ l
bytes_number l t =
    number_apart (bytes (length l) (number l)) l (length_bytes (length l) (number l)) (are_bytes (length l) (number l)) t
    (number_bytes (length l) (number l) ∙ mod-eq_of_lt (number_lt l t))
