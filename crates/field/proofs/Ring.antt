-- The product modulo x^n + f: commutative, associative, distributive, with a one. For every n and f.
-- Every element acts as a linear map that commutes with x, and such a map is decided by its value at one.
use Rattle.std.proofs.Common.{◌≡◌, ℕ, zero, suc, ◌+◌, ◌-◌, ◌*◌, ◌/◌, ◌%◌, ◌^◌, ◌<◌, ◌≤◌, ◌∷◌, map, sym, refl, ap, ◌∙◌, subst, ap₂, mod-lt, mod-eq_of_lt, mul_assoc as times_assoc, mul_comm as times_comm, add-mul, mul-lt-mul_of_pos_right, one-mul, pow-suc, div-add-mod', zero-mul, mul-one, arith, pow_pos}
use native.Mathlib.Nat.{div-eq_of_lt}
use lib.Pow.{pow-lt}
use lib.Bits.{bit_xor, xor_mod, xor_shr, xor_comm, xor_zero_r, xor_lt, xor_shifted}
use Rattle.field.specs.Field.{times_x, combine, powers, mul}
use Rattle.field.proofs.Linear.{Linear, linear_zero, xor_swap, bit_lt, bits_times, bit_times_linear, double_linear, combine_linear, combine_map}

-- a bit times an element is no larger
pub bit_times_lt : (n t a : ℕ) → t < 2 → a < 2 ^ n → t * a < 2 ^ n
bit_times_lt n zero a ht h = subst (λ x. x < 2 ^ n) (sym (zero-mul a)) (pow_pos n)
bit_times_lt n (suc zero) a ht h = subst (λ x. x < 2 ^ n) (sym (one-mul a)) h
bit_times_lt n (suc (suc t)) a ht h = omega arith

module _ (n f : ℕ) (fits : f < 2 ^ n) where
  pub times_x_linear : Linear (times_x n f)
  unfolding times_x
  times_x_linear u v =
      ap₂ bit_xor
      (ap (λ x. x % 2 ^ n) (double_linear u v) ∙ xor_mod (u * 2) (v * 2) n)
      (ap (λ x. x % 2 * f) (xor_shr u v (n - 1))
      ∙ ap (λ x. x * f) (xor_mod (u / 2 ^ (n - 1)) (v / 2 ^ (n - 1)) 1)
      ∙ bits_times (u / 2 ^ (n - 1) % 2) (v / 2 ^ (n - 1) % 2) f (bit_lt (u / 2 ^ (n - 1))) (bit_lt (v / 2 ^ (n - 1))))
      ∙ xor_swap (u * 2 % 2 ^ n) (v * 2 % 2 ^ n) (u / 2 ^ (n - 1) % 2 * f) (v / 2 ^ (n - 1) % 2 * f)

  pub times_x_lt : (a : ℕ) → times_x n f a < 2 ^ n
  unfolding times_x
  times_x_lt a =
      xor_lt n (a * 2 % 2 ^ n) (a / 2 ^ (n - 1) % 2 * f) (mod-lt (a * 2) (pow_pos n))
      (bit_times_lt n (a / 2 ^ (n - 1) % 2) f (bit_lt (a / 2 ^ (n - 1))) fits)

  pub combine_powers_lt : (k a b : ℕ) → b < 2 ^ n → combine (powers n f k b) a < 2 ^ n
  unfolding combine powers
  combine_powers_lt zero a b h = pow_pos n
  combine_powers_lt (suc k) a b h =
      xor_lt n (a % 2 * b) (combine (powers n f k (times_x n f b)) (a / 2)) (bit_times_lt n (a % 2) b (bit_lt a) h)
      (combine_powers_lt k (a / 2) (times_x n f b) (times_x_lt b))

  pub mul_lt : (a b : ℕ) → b < 2 ^ n → mul n f a b < 2 ^ n
  unfolding mul
  mul_lt a b h = combine_powers_lt n a b h

  -- a linear map that commutes with x goes through the powers of x
  pub powers_map : (φ : ℕ → ℕ) → ((a : ℕ) → a < 2 ^ n → φ (times_x n f a) ≡ times_x n f (φ a)) → (k a : ℕ) → a < 2 ^ n
      → map φ (powers n f k a) ≡ powers n f k (φ a)
  unfolding powers
  powers_map φ h zero a b = refl
  powers_map φ h (suc k) a b = ap (λ x. φ a ∷ x) (powers_map φ h k (times_x n f a) (times_x_lt a) ∙ ap (powers n f k) (h a b))

  pub commutes : (φ : ℕ → ℕ) → Linear φ → ((a : ℕ) → a < 2 ^ n → φ (times_x n f a) ≡ times_x n f (φ a)) → (k a b : ℕ) → b < 2 ^ n
      → φ (combine (powers n f k b) a) ≡ combine (powers n f k (φ b)) a
  commutes φ l h k a b hb = combine_map φ l (powers n f k b) a ∙ ap (λ x. combine x a) (powers_map φ h k b hb)

  powers_linear : (k a : ℕ) → Linear (λ b. combine (powers n f k b) a)
  unfolding combine powers
  powers_linear zero a u v = refl
  powers_linear (suc k) a u v =
      ap₂ bit_xor (bit_times_linear (a % 2) (bit_lt a) u v)
      (ap (λ x. combine (powers n f k x) (a / 2)) (times_x_linear u v) ∙ powers_linear k (a / 2) (times_x n f u) (times_x n f v))
      ∙ xor_swap (a % 2 * u) (a % 2 * v) (combine (powers n f k (times_x n f u)) (a / 2)) (combine (powers n f k (times_x n f v)) (a / 2))

  pub mul_linear_r : (a : ℕ) → Linear (mul n f a)
  unfolding mul
  mul_linear_r a = powers_linear n a

  pub mul_linear_l : (b : ℕ) → Linear (λ a. mul n f a b)
  unfolding mul
  mul_linear_l b = combine_linear (powers n f n b)

  -- a (x b) = x (a b)
  pub mul_times_x : (a b : ℕ) → b < 2 ^ n → mul n f a (times_x n f b) ≡ times_x n f (mul n f a b)
  unfolding mul
  mul_times_x a b h = sym (commutes (times_x n f) times_x_linear (λ c k. refl) n a b h)

  -- a (b c) = b (a c)
  pub mul_left_comm : (a b c : ℕ) → c < 2 ^ n → mul n f a (mul n f b c) ≡ mul n f b (mul n f a c)
  unfolding mul
  mul_left_comm a b c h = commutes (mul n f a) (mul_linear_r a) (mul_times_x a) n b c h

  pub times_x_pow : (j : ℕ) → suc j < n → times_x n f (2 ^ j) ≡ 2 ^ suc j
  unfolding times_x
  times_x_pow j h =
      ap₂ bit_xor
      (ap (λ x. x % 2 ^ n) (sym (pow-suc 2 j)) ∙ mod-eq_of_lt (pow-lt h))
      (ap (λ x. x % 2 * f) (div-eq_of_lt (let k : j < n - 1 = omega arith in pow-lt k)) ∙ zero-mul f)
      ∙ xor_zero_r (2 ^ suc j)

  basis : (k j v : ℕ) → k + j ≤ n → v < 2 ^ k → combine (powers n f k (2 ^ j)) v ≡ v * 2 ^ j
  unfolding combine powers
  basis zero j v h b = let z : v ≡ 0 = omega arith in sym (ap (λ x. x * 2 ^ j) z ∙ zero-mul (2 ^ j))
  basis (suc zero) j v h b =
      xor_zero_r (v % 2 * 2 ^ j) ∙ ap (λ x. x * 2 ^ j) (mod-eq_of_lt b)
  basis (suc (suc k)) j v h b =
      ap (λ x. bit_xor (v % 2 * 2 ^ j) (combine (powers n f (suc k) x) (v / 2))) (times_x_pow j (omega arith))
      ∙ ap (bit_xor (v % 2 * 2 ^ j)) (basis (suc k) (suc j) (v / 2) (omega arith) (omega (arith, pow-suc 2 (suc k))))
      ∙ xor_comm (v % 2 * 2 ^ j) (v / 2 * 2 ^ suc j)
      ∙ xor_shifted (v / 2) (suc j) (v % 2 * 2 ^ j) (subst (λ x. v % 2 * 2 ^ j < x) (times_comm 2 (2 ^ j) ∙ sym (pow-suc 2 j)) (mul-lt-mul_of_pos_right (bit_lt v) (pow_pos j)))
      ∙ ap (λ x. v / 2 * x + v % 2 * 2 ^ j) (pow-suc 2 j ∙ times_comm (2 ^ j) 2)
      ∙ ap (λ x. x + v % 2 * 2 ^ j) (sym (times_assoc (v / 2) 2 (2 ^ j)))
      ∙ sym (add-mul (v / 2 * 2) (v % 2) (2 ^ j))
      ∙ ap (λ x. x * 2 ^ j) (div-add-mod' v 2)

  -- an element is its sum of powers of x: a 1 = a
  pub mul_one_r : (a : ℕ) → a < 2 ^ n → mul n f a 1 ≡ a
  unfolding mul
  mul_one_r a h = basis n 0 a (omega arith) h ∙ mul-one a

  module _ (wide : 1 < n) where
    one_lt : 1 < 2 ^ n
    one_lt = let p : 0 < n = omega arith in pow-lt p

    pub mul_comm : (a b : ℕ) → a < 2 ^ n → b < 2 ^ n → mul n f a b ≡ mul n f b a
    mul_comm a b ha hb =
        ap (mul n f a) (sym (mul_one_r b hb)) ∙ mul_left_comm a b 1 one_lt ∙ ap (mul n f b) (mul_one_r a ha)

    pub mul_assoc : (a b c : ℕ) → a < 2 ^ n → b < 2 ^ n → c < 2 ^ n → mul n f (mul n f a b) c ≡ mul n f a (mul n f b c)
    mul_assoc a b c ha hb hc =
        mul_comm (mul n f a b) c (mul_lt a b hb) hc ∙ mul_left_comm c a b hb ∙ ap (mul n f a) (mul_comm c b hc hb)

    pub mul_one_l : (a : ℕ) → a < 2 ^ n → mul n f 1 a ≡ a
    mul_one_l a h = mul_comm 1 a one_lt h ∙ mul_one_r a h

    -- x a, x being the number 2
    pub mul_x : (a : ℕ) → a < 2 ^ n → mul n f a 2 ≡ times_x n f a
    mul_x a h = ap (mul n f a) (sym (times_x_pow 0 wide)) ∙ mul_times_x a 1 one_lt ∙ ap (times_x n f) (mul_one_r a h)

    pub mul_zero_r : (a : ℕ) → mul n f a 0 ≡ 0
    mul_zero_r a = linear_zero (mul n f a) (mul_linear_r a)

    pub mul_zero_l : (a : ℕ) → mul n f 0 a ≡ 0
    mul_zero_l a = linear_zero (λ x. mul n f x a) (mul_linear_l a)

    -- an element has one inverse at most
    pub one_inverse : (a b c : ℕ) → a < 2 ^ n → b < 2 ^ n → c < 2 ^ n → mul n f a b ≡ 1 → mul n f a c ≡ 1 → b ≡ c
    one_inverse a b c ha hb hc p q =
        sym (mul_one_r b hb)
        ∙ ap (mul n f b) (sym q)
        ∙ mul_left_comm b a c hc
        ∙ sym (mul_assoc a b c ha hb hc)
        ∙ ap (λ x. mul n f x c) p
        ∙ mul_one_l c hc
