-- Every element but zero has an inverse, from two computed facts of the modulus: n squarings bring x back to x,
-- and a linear map takes v^2 + v back to v, up to the coefficient of one.
use Rattle.std.proofs.Common.{◌≡◌, ℕ, zero, suc, ◌-◌, ◌%◌, ◌^◌, ◌<◌, ◌≢◌, List, map, sym, refl, ap, ◌∙◌, ap₂, mod-lt, mod-eq_of_lt, arith, pow_pos}
use lib.Pow.{pow-lt}
use lib.Bits.{bit_xor, xor_mod, xor_assoc, xor_self}
use Rattle.field.specs.Field.{times_x, combine, powers, mul, square, norm, inverse}
use Rattle.field.proofs.Linear.{Linear, linear_zero, xor_swap, xor_cancel, xor_zero_eq, combine_linear, combine_map}
use Rattle.field.proofs.Ring as ring

-- a squared k times
unfoldable pub squares : ℕ → ℕ → ℕ → ℕ → ℕ
squares n f zero a = a
squares n f (suc k) a = square n f (squares n f k a)

-- the test of a table ts: it takes v^2 + v to v without its coefficient of one
unfoldable pub solve : ℕ → ℕ → List ℕ → ℕ → ℕ
solve n f ts v = combine ts (bit_xor (square n f v) v)

module _ (n f : ℕ) (fits : f < 2 ^ n) (wide : 1 < n) where
  one_lt : 1 < 2 ^ n
  one_lt = let p : 0 < n = omega arith in pow-lt p

  x_lt : 2 < 2 ^ n
  x_lt = pow-lt wide

  pub square_lt : (a : ℕ) → a < 2 ^ n → square n f a < 2 ^ n
  unfolding square
  square_lt a h = ring.mul_lt n f fits a a h

  pub square_add : (a b : ℕ) → a < 2 ^ n → b < 2 ^ n → square n f (bit_xor a b) ≡ bit_xor (square n f a) (square n f b)
  unfolding square
  square_add a b ha hb =
      ring.mul_linear_l n f fits (bit_xor a b) a b
      ∙ ap₂ bit_xor (ring.mul_linear_r n f fits a a b) (ring.mul_linear_r n f fits b a b ∙ ap (λ x. bit_xor x (mul n f b b)) (ring.mul_comm n f fits wide b a hb ha))
      ∙ xor_assoc (mul n f a a) (mul n f a b) (bit_xor (mul n f a b) (mul n f b b))
      ∙ ap (bit_xor (mul n f a a)) (xor_cancel (mul n f a b) (mul n f b b))

  pub square_mul : (a b : ℕ) → a < 2 ^ n → b < 2 ^ n → square n f (mul n f a b) ≡ mul n f (square n f a) (square n f b)
  unfolding square
  square_mul a b ha hb =
      ring.mul_assoc n f fits wide a b (mul n f a b) ha hb (ring.mul_lt n f fits a b hb)
      ∙ ap (mul n f a) (ring.mul_left_comm n f fits b a b hb)
      ∙ sym (ring.mul_assoc n f fits wide a a (mul n f b b) ha ha (ring.mul_lt n f fits b b hb))

  pub squares_lt : (k a : ℕ) → a < 2 ^ n → squares n f k a < 2 ^ n
  unfolding squares
  squares_lt zero a h = h
  squares_lt (suc k) a h = square_lt (squares n f k a) (squares_lt k a h)

  pub squares_add : (k a b : ℕ) → a < 2 ^ n → b < 2 ^ n → squares n f k (bit_xor a b) ≡ bit_xor (squares n f k a) (squares n f k b)
  unfolding squares
  squares_add zero a b ha hb = refl
  squares_add (suc k) a b ha hb =
      ap (square n f) (squares_add k a b ha hb)
      ∙ square_add (squares n f k a) (squares n f k b) (squares_lt k a ha) (squares_lt k b hb)

  pub squares_mul : (k a b : ℕ) → a < 2 ^ n → b < 2 ^ n → squares n f k (mul n f a b) ≡ mul n f (squares n f k a) (squares n f k b)
  unfolding squares
  squares_mul zero a b ha hb = refl
  squares_mul (suc k) a b ha hb =
      ap (square n f) (squares_mul k a b ha hb)
      ∙ square_mul (squares n f k a) (squares n f k b) (squares_lt k a ha) (squares_lt k b hb)

  square_one : square n f 1 ≡ 1
  unfolding square
  square_one = ring.mul_one_r n f fits 1 one_lt

  squares_one : (k : ℕ) → squares n f k 1 ≡ 1
  unfolding squares
  squares_one zero = refl
  squares_one (suc k) = ap (square n f) (squares_one k) ∙ square_one

  -- a map that is additive below 2^n, made linear by leaving the higher bits out
  reduced_linear : (φ : ℕ → ℕ) → ((a b : ℕ) → a < 2 ^ n → b < 2 ^ n → φ (bit_xor a b) ≡ bit_xor (φ a) (φ b)) → Linear (λ a. φ (a % 2 ^ n))
  reduced_linear φ h u v =
      ap φ (xor_mod u v n) ∙ h (u % 2 ^ n) (v % 2 ^ n) (mod-lt u (pow_pos n)) (mod-lt v (pow_pos n))

  module _ (back : squares n f n 2 ≡ 2) where
    squares_x : (a : ℕ) → a < 2 ^ n → squares n f n (times_x n f a) ≡ times_x n f (squares n f n a)
    squares_x a h =
        ap (squares n f n) (sym (ring.mul_x n f fits wide a h))
        ∙ squares_mul n a 2 h x_lt
        ∙ ap (mul n f (squares n f n a)) back
        ∙ ring.mul_x n f fits wide (squares n f n a) (squares_lt n a h)

    whole : ℕ → ℕ
    whole a = squares n f n (a % 2 ^ n)

    whole_is : (a : ℕ) → a < 2 ^ n → whole a ≡ squares n f n a
    unfolding whole
    whole_is a h = ap (squares n f n) (mod-eq_of_lt h)

    whole_linear : Linear whole
    unfolding whole
    whole_linear = reduced_linear (squares n f n) (squares_add n)

    whole_x : (a : ℕ) → a < 2 ^ n → whole (times_x n f a) ≡ times_x n f (whole a)
    whole_x a h =
        whole_is (times_x n f a) (ring.times_x_lt n f fits a) ∙ squares_x a h ∙ ap (times_x n f) (sym (whole_is a h))

    -- a^(2^n) = a
    pub squares_all : (a : ℕ) → a < 2 ^ n → squares n f n a ≡ a
    unfolding mul
    squares_all a h =
        sym (whole_is a h)
        ∙ ap whole (sym (ring.mul_one_r n f fits a h))
        ∙ ring.commutes n f fits whole whole_linear whole_x n a 1 one_lt
        ∙ ap (λ x. mul n f a x) (whole_is 1 one_lt ∙ squares_one n)
        ∙ ring.mul_one_r n f fits a h

    pub norm_lt : (k a : ℕ) → a < 2 ^ n → norm n f k a < 2 ^ n
    unfolding norm
    norm_lt zero a h = one_lt
    norm_lt (suc k) a h = ring.mul_lt n f fits a (square n f (norm n f k a)) (square_lt (norm n f k a) (norm_lt k a h))

    -- a a^(2^k - 1) = a^(2^k)
    norm_mul : (k a : ℕ) → a < 2 ^ n → mul n f a (norm n f k a) ≡ squares n f k a
    unfolding norm squares square
    norm_mul zero a h = ring.mul_one_r n f fits a h
    norm_mul (suc k) a h =
        let w : ℕ = norm n f k a in
        let hw : w < 2 ^ n = norm_lt k a h in
        sym (ring.mul_assoc n f fits wide a a (square n f w) h h (square_lt w hw))
        ∙ sym (square_mul a w h hw)
        ∙ ap (square n f) (norm_mul k a h)

    pub inverse_lt : (a : ℕ) → a < 2 ^ n → inverse n f a < 2 ^ n
    unfolding inverse
    inverse_lt a h = square_lt (norm n f (n - 1) a) (norm_lt (n - 1) a h)

    -- a^(2^n - 1) = a a^(2^n - 2)
    norm_inverse : (a : ℕ) → norm n f n a ≡ mul n f a (inverse n f a)
    unfolding norm inverse
    norm_inverse a = let e : n ≡ suc (n - 1) = omega arith in ap (λ k. norm n f k a) e

    -- a (a a^(2^n - 2)) = a
    thrice : (a : ℕ) → a < 2 ^ n → mul n f a (mul n f a (inverse n f a)) ≡ a
    thrice a h = ap (mul n f a) (sym (norm_inverse a)) ∙ norm_mul n a h ∙ squares_all a h

    -- a^(2^n - 1) is its own square
    idempotent : (a : ℕ) → a < 2 ^ n → let e : ℕ = mul n f a (inverse n f a) in square n f e ≡ e
    unfolding square
    idempotent a h =
        let q : ℕ = inverse n f a in
        let e : ℕ = mul n f a q in
        let hq : q < 2 ^ n = inverse_lt a h in
        let he : e < 2 ^ n = ring.mul_lt n f fits a q hq in
        ring.mul_assoc n f fits wide a q e h hq he
        ∙ ring.mul_left_comm n f fits a q e he
        ∙ ap (mul n f q) (thrice a h)
        ∙ ring.mul_comm n f fits wide q a hq h

    module _ (ts : List ℕ) (solves : map (λ v. solve n f ts (v % 2 ^ n)) (powers n f n 1) ≡ map (λ v. bit_xor v (v % 2)) (powers n f n 1)) where
      solve_linear : Linear (λ v. solve n f ts (v % 2 ^ n))
      unfolding solve
      solve_linear = reduced_linear (solve n f ts)
          (λ a b ha hb. ap (λ x. combine ts (bit_xor x (bit_xor a b))) (square_add a b ha hb)
          ∙ ap (combine ts) (xor_swap (square n f a) (square n f b) a b)
          ∙ combine_linear ts (bit_xor (square n f a) a) (bit_xor (square n f b) b))

      drop_linear : Linear (λ v. bit_xor v (v % 2))
      drop_linear u v = ap (bit_xor (bit_xor u v)) (xor_mod u v 1) ∙ xor_swap u v (u % 2) (v % 2)

      -- an element that is its own square is zero or one
      idempotent_bit : (e : ℕ) → e < 2 ^ n → square n f e ≡ e → e ≡ e % 2
      unfolding mul solve
      idempotent_bit e h s =
          xor_zero_eq e (e % 2)
          (ap (λ x. bit_xor x (x % 2)) (sym (ring.mul_one_r n f fits e h))
          ∙ combine_map (λ v. bit_xor v (v % 2)) drop_linear (powers n f n 1) e
          ∙ ap (λ l. combine l e) (sym solves)
          ∙ sym (combine_map (λ v. solve n f ts (v % 2 ^ n)) solve_linear (powers n f n 1) e)
          ∙ ap (λ x. solve n f ts (x % 2 ^ n)) (ring.mul_one_r n f fits e h)
          ∙ ap (solve n f ts) (mod-eq_of_lt h)
          ∙ ap (λ x. combine ts (bit_xor x e)) s
          ∙ ap (combine ts) (xor_self e)
          ∙ linear_zero (combine ts) (combine_linear ts))

      pub has_inverse : (a : ℕ) → a < 2 ^ n → a ≢ 0 → mul n f a (inverse n f a) ≡ 1
      has_inverse a h ne = go e refl (idempotent_bit e (ring.mul_lt n f fits a (inverse n f a) (inverse_lt a h)) (idempotent a h))
        where
          e : ℕ
          e = mul n f a (inverse n f a)

          go : (k : ℕ) → e ≡ k → e ≡ e % 2 → e ≡ 1
          go zero p q = absurd (ne (sym (thrice a h) ∙ ap (mul n f a) p ∙ ring.mul_zero_r n f fits wide a))
          go (suc zero) p q = p
          go (suc (suc k)) p q = omega arith

      -- no product of two elements but zero is zero
      pub product_nonzero : (a b : ℕ) → a < 2 ^ n → b < 2 ^ n → a ≢ 0 → b ≢ 0 → mul n f a b ≢ 0
      product_nonzero a b ha hb na nb z =
          na (sym (ring.mul_one_r n f fits a ha)
          ∙ ap (mul n f a) (sym (has_inverse b hb nb))
          ∙ sym (ring.mul_assoc n f fits wide a b (inverse n f b) ha hb (inverse_lt b hb))
          ∙ ap (λ x. mul n f x (inverse n f b)) z
          ∙ ring.mul_zero_l n f fits wide (inverse n f b))
