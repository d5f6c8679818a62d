-- The product by windows of k bits, the highest first, over the width.
use Rattle.std.proofs.Common.{◌≡◌, ℕ, zero, suc, ◌+◌, ◌-◌, ◌*◌, ◌/◌, ◌%◌, ◌^◌, ◌<◌, ◌≤◌, map, sym, refl, ap, ◌∙◌, subst, ap₂, lt_of_le_of_lt, add-zero, mod-lt, mul_assoc as times_assoc, mul_comm as times_comm, add-mul, pow-suc, div-add-mod', mul-one, div-one, arith, pow_pos, pow-add, shr-shr}
use native.Mathlib.Nat.{mul-add-mod_self_right, div-eq_of_lt}
use lib.Pow.{split, shl-shr, shr_le, field}
use lib.Bits.{bit_xor, xor_block, xor_mod, xor_shifted}
use Rattle.field.specs.Field.{times_x, combine, powers, mul}
use Rattle.field.specs.Window.{raise}
use Rattle.field.proofs.Linear.{Linear, xor_swap, combine_map}
use Rattle.field.proofs.Ring as ring
use Rattle.field.proofs.Divide.{times_x_small}

-- linear maps: the shifts, the sums and what follows one after another
pub up_linear : (k : ℕ) → Linear (λ a. a * 2 ^ k)
up_linear k u v = simp add-zero at (sym (xor_block k u v 0 0 (pow_pos k) (pow_pos k)))

pub cut_linear : (k w : ℕ) → Linear (λ a. a * 2 ^ k % 2 ^ w)
cut_linear k w u v = ap (λ x. x % 2 ^ w) (up_linear k u v) ∙ xor_mod (u * 2 ^ k) (v * 2 ^ k) w

pub sum_linear : (φ ψ : ℕ → ℕ) → Linear φ → Linear ψ → Linear (λ a. bit_xor (φ a) (ψ a))
sum_linear φ ψ h k u v = ap₂ bit_xor (h u v) (k u v) ∙ xor_swap (φ u) (φ v) (ψ u) (ψ v)

pub then_linear : (φ ψ : ℕ → ℕ) → Linear φ → Linear ψ → Linear (λ a. φ (ψ a))
then_linear φ ψ h k u v = ap φ (k u v) ∙ h (ψ u) (ψ v)

mod_times : (x y m : ℕ) → x % m * y % m ≡ x * y % m
mod_times x y m =
    sym (ap (λ t. t * y % m) (sym (div-add-mod' x m))
    ∙ ap (λ t. t % m) (add-mul (x / m * m) (x % m) y
    ∙ ap (λ t. t + x % m * y) (times_assoc (x / m) m y ∙ ap (λ t. x / m * t) (times_comm m y) ∙ sym (times_assoc (x / m) y m)))
    ∙ mul-add-mod_self_right (x / m * y) m (x % m * y))

-- the window of k bits below the first i of them, in what is left after i bits are shifted out
pub window_top : (n k i a : ℕ) → i + k ≤ n → a * 2 ^ i % 2 ^ n / 2 ^ (n - k) ≡ a / 2 ^ (n - (i + k)) % 2 ^ k
window_top n k i a h =
    let j : ℕ = n - (i + k) in
    let e : n ≡ k + (n - k) = omega arith in
    let d : n - k ≡ i + j = omega arith in
    ap (λ t. a * 2 ^ i % 2 ^ t / 2 ^ (n - k)) e ∙ field (a * 2 ^ i) k (n - k)
    ∙ ap (λ t. t % 2 ^ k) (ap (λ t. a * 2 ^ i / 2 ^ t) d ∙ sym (shr-shr (a * 2 ^ i) i j) ∙ ap (λ t. t / 2 ^ j) (shl-shr a i))

pub window_rest : (n k i a : ℕ) → a * 2 ^ i % 2 ^ n * 2 ^ k % 2 ^ n ≡ a * 2 ^ (i + k) % 2 ^ n
window_rest n k i a =
    mod_times (a * 2 ^ i) (2 ^ k) (2 ^ n) ∙ ap (λ t. t % 2 ^ n) (times_assoc a (2 ^ i) (2 ^ k) ∙ ap (λ t. a * t) (sym (pow-add 2 i k)))

module _ (n f : ℕ) (fits : f < 2 ^ n) where
  pub raise_linear : (k : ℕ) → Linear (raise n f k)
  unfolding raise
  raise_linear zero u v = refl
  raise_linear (suc k) u v = ap (times_x n f) (raise_linear k u v) ∙ ring.times_x_linear n f fits (raise n f k u) (raise n f k v)

  pub raise_lt : (k a : ℕ) → a < 2 ^ n → raise n f k a < 2 ^ n
  unfolding raise
  raise_lt zero a h = h
  raise_lt (suc k) a h = ring.times_x_lt n f fits (raise n f k a)

  -- a (x^k b) = x^k (a b)
  pub mul_raise : (k a b : ℕ) → b < 2 ^ n → mul n f a (raise n f k b) ≡ raise n f k (mul n f a b)
  unfolding raise
  mul_raise zero a b h = refl
  mul_raise (suc k) a b h = ring.mul_times_x n f fits a (raise n f k b) (raise_lt k b h) ∙ ap (times_x n f) (mul_raise k a b h)

  -- two linear maps that agree at the powers of x agree at every element
  pub agree : (φ ψ : ℕ → ℕ) → Linear φ → Linear ψ → map φ (powers n f n 1) ≡ map ψ (powers n f n 1) → (a : ℕ) → a < 2 ^ n → φ a ≡ ψ a
  unfolding mul
  agree φ ψ l m e a h =
      ap φ (sym (ring.mul_one_r n f fits a h))
      ∙ combine_map φ l (powers n f n 1) a
      ∙ ap (λ ts. combine ts a) e
      ∙ sym (combine_map ψ m (powers n f n 1) a)
      ∙ ap ψ (ring.mul_one_r n f fits a h)

  module _ (wide : 1 < n) where
    -- (x q) b = x (q b)
    pub double_l : (q b : ℕ) → q * 2 < 2 ^ n → b < 2 ^ n → mul n f (q * 2) b ≡ times_x n f (mul n f q b)
    double_l q b h hb =
        let hq : q < 2 ^ n = omega arith in
        ring.mul_comm n f fits wide (q * 2) b h hb
        ∙ ap (mul n f b) (sym (times_x_small n f fits wide q h))
        ∙ ring.mul_times_x n f fits b q hq
        ∙ ap (times_x n f) (ring.mul_comm n f fits wide b q hb hq)

    pub raise_l : (k q b : ℕ) → q * 2 ^ k < 2 ^ n → b < 2 ^ n → mul n f (q * 2 ^ k) b ≡ raise n f k (mul n f q b)
    unfolding raise
    raise_l zero q b h hb = ap (λ t. mul n f t b) (mul-one q)
    raise_l (suc k) q b h hb =
        let e : q * 2 ^ suc k ≡ q * 2 ^ k * 2 = ap (λ t. q * t) (pow-suc 2 k) ∙ sym (times_assoc q (2 ^ k) 2) in
        let l : q * 2 ^ k * 2 < 2 ^ n = subst (λ t. t < 2 ^ n) e h in
        ap (λ t. mul n f t b) e ∙ double_l (q * 2 ^ k) b l hb ∙ ap (times_x n f) (raise_l k q b (omega arith) hb)

    -- a number of two parts
    pub parts : (k q r b : ℕ) → q * 2 ^ k < 2 ^ n → r < 2 ^ k → b < 2 ^ n → mul n f (q * 2 ^ k + r) b ≡ bit_xor (raise n f k (mul n f q b)) (mul n f r b)
    parts k q r b h hr hb =
        ap (λ t. mul n f t b) (sym (xor_shifted q k r hr))
        ∙ ring.mul_linear_l n f fits b (q * 2 ^ k) r
        ∙ ap (λ t. bit_xor t (mul n f r b)) (raise_l k q b h hb)

    pub parted : (k v b : ℕ) → v < 2 ^ n → b < 2 ^ n → mul n f v b ≡ bit_xor (raise n f k (mul n f (v / 2 ^ k) b)) (mul n f (v % 2 ^ k) b)
    parted k v b h hb =
        let e : v / 2 ^ k * 2 ^ k + v % 2 ^ k ≡ v = split v k in
        ap (λ t. mul n f t b) (sym e) ∙ parts k (v / 2 ^ k) (v % 2 ^ k) b (omega arith) (mod-lt v (pow_pos k)) hb

    -- one turn: the sum raised by k, and the window's multiple
    pub window_step : (k i a b s t : ℕ) → i + k ≤ n → a < 2 ^ n → b < 2 ^ n → s ≡ mul n f (a / 2 ^ (n - i)) b
        → t ≡ mul n f (a / 2 ^ (n - (i + k)) % 2 ^ k) b → bit_xor (raise n f k s) t ≡ mul n f (a / 2 ^ (n - (i + k))) b
    window_step k i a b s t h ha hb es et =
        let v : ℕ = a / 2 ^ (n - (i + k)) in
        let hv : v < 2 ^ n = lt_of_le_of_lt (shr_le a (n - (i + k))) ha in
        let e : n - i ≡ (n - (i + k)) + k = omega arith in
        let q : a / 2 ^ (n - i) ≡ v / 2 ^ k = ap (λ j. a / 2 ^ j) e ∙ sym (shr-shr a (n - (i + k)) k) in
        ap₂ bit_xor (ap (raise n f k) (es ∙ ap (λ j. mul n f j b) q)) et ∙ sym (parted k v b hv hb)

    -- before the first turn, and after the last
    pub window_first : (a b s : ℕ) → a < 2 ^ n → s ≡ 0 → s ≡ mul n f (a / 2 ^ (n - 0)) b
    window_first a b s ha e =
        let z : n - 0 ≡ n = omega arith in
        e ∙ sym (ap (λ j. mul n f j b) (ap (λ j. a / 2 ^ j) z ∙ div-eq_of_lt ha) ∙ ring.mul_zero_l n f fits wide b)

    pub window_last : (i a b s : ℕ) → i ≡ n → s ≡ mul n f (a / 2 ^ (n - i)) b → s ≡ mul n f a b
    window_last i a b s e h =
        let z : n - i ≡ 0 = omega arith in
        h ∙ ap (λ j. mul n f j b) (ap (λ j. a / 2 ^ j) z ∙ div-one a)

    -- a window of 2k bits by two of k
    pub halves : (k v b c p q : ℕ) → v < 2 ^ n → b < 2 ^ n → c ≡ raise n f k b → p ≡ mul n f (v / 2 ^ k) c → q ≡ mul n f (v % 2 ^ k) b → bit_xor p q ≡ mul n f v b
    halves k v b c p q hv hb ec ep eq =
        ap₂ bit_xor (ep ∙ ap (mul n f (v / 2 ^ k)) ec ∙ mul_raise k (v / 2 ^ k) b hb) eq ∙ sym (parted k v b hv hb)

    -- the multiples of b in a table: the even ones, and those after them
    pub even : (i b : ℕ) → i * 2 < 2 ^ n → b < 2 ^ n → mul n f (2 * i) b ≡ times_x n f (mul n f i b)
    even i b h hb = ap (λ t. mul n f t b) (times_comm 2 i) ∙ double_l i b h hb

    pub odd : (i b : ℕ) → i * 2 < 2 ^ n → b < 2 ^ n → mul n f (2 * i + 1) b ≡ bit_xor (times_x n f (mul n f i b)) b
    unfolding raise
    odd i b h hb =
        ap (λ t. mul n f (t + 1) b) (times_comm 2 i) ∙ parts 1 i 1 b h (omega arith) hb ∙ ap (bit_xor (times_x n f (mul n f i b))) (ring.mul_one_l n f fits wide b hb)
