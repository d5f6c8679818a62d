-- The S-box and its inverse keep their rules and undo one another: computed over all bytes.
use Rattle.std.proofs.Common.{◌≡◌, ℕ, zero, suc, ◌<◌, Bool, T, eqb, ltb, sym, refl, ap, ◌∙◌, inl, inr, arith, eqb→eq, ltb→lt}
use Rattle.std.specs.List.{range_with_len}
use Rattle.field.specs.Field.{times_x, combine, powers, square, norm}
use Rattle.field.specs.Field.{mul as product, inverse as power}
use Rattle.aes_steps.specs.Field.{mul, inverse}
use Rattle.aes_steps.specs.Sbox.{affine, inv_affine, s_box, inv_s_box, Inverse, Substitutes}
use Rattle.aes_steps.proofs.Table.{both, both_left, both_right, every, upto}

-- what is computed of the inverse of each byte
inverted : ℕ → Bool
inverted zero = eqb (inverse 0) 0
inverted (suc x) = both (eqb (mul (suc x) (inverse (suc x))) 1) (both (eqb (inverse (inverse (suc x))) (suc x)) (ltb (inverse (suc x)) 256))

inverted_all : T (every (λ k x. inverted x) 0 (range_with_len 0 256))
unfolding inverted product power norm square combine powers times_x
inverted_all = tt

inverse_is : (x : ℕ) → T (inverted x) → Inverse x (inverse x)
unfolding inverted
inverse_is zero t = inr (refl, eqb→eq (inverse 0) 0 t)
inverse_is (suc x) t = inl (eqb→eq (mul (suc x) (inverse (suc x))) 1 (both_left (eqb (mul (suc x) (inverse (suc x))) 1) _ t))

inverse_twice : (x : ℕ) → T (inverted x) → inverse (inverse x) ≡ x
unfolding inverted
inverse_twice zero t = ap inverse (eqb→eq (inverse 0) 0 t) ∙ eqb→eq (inverse 0) 0 t
inverse_twice (suc x) t =
    eqb→eq (inverse (inverse (suc x))) (suc x) (both_left (eqb (inverse (inverse (suc x))) (suc x)) _ (both_right (eqb (mul (suc x) (inverse (suc x))) 1) _ t))

inverse_small : (x : ℕ) → T (inverted x) → inverse x < 256
unfolding inverted
inverse_small zero t = let e = eqb→eq (inverse 0) 0 t in omega arith
inverse_small (suc x) t =
    ltb→lt (inverse (suc x)) 256
    (both_right (eqb (inverse (inverse (suc x))) (suc x)) _ (both_right (eqb (mul (suc x) (inverse (suc x))) 1) _ t))

-- every byte has its inverse
pub has_inverse : (x : ℕ) → x < 256 → Inverse x (inverse x)
has_inverse x h = inverse_is x (upto inverted 256 inverted_all x h)

pub inverse_inverse : (x : ℕ) → x < 256 → inverse (inverse x) ≡ x
inverse_inverse x h = inverse_twice x (upto inverted 256 inverted_all x h)

pub inverse_lt : (x : ℕ) → x < 256 → inverse x < 256
inverse_lt x h = inverse_small x (upto inverted 256 inverted_all x h)

-- what is computed of the two affine maps
mapped : ℕ → Bool
mapped b = both (eqb (inv_affine (affine b)) b) (both (eqb (affine (inv_affine b)) b) (both (ltb (affine b) 256) (ltb (inv_affine b) 256)))

mapped_all : T (every (λ k b. mapped b) 0 (range_with_len 0 256))
unfolding mapped affine inv_affine
mapped_all = tt

module _ (b : ℕ) (h : b < 256) where
  at_b : T (mapped b)
  at_b = upto mapped 256 mapped_all b h

  inv_affine_affine : inv_affine (affine b) ≡ b
  unfolding mapped
  inv_affine_affine = eqb→eq (inv_affine (affine b)) b (both_left (eqb (inv_affine (affine b)) b) _ at_b)

  affine_inv_affine : affine (inv_affine b) ≡ b
  unfolding mapped
  affine_inv_affine = eqb→eq (affine (inv_affine b)) b (both_left (eqb (affine (inv_affine b)) b) _ (both_right (eqb (inv_affine (affine b)) b) _ at_b))

  affine_lt : affine b < 256
  unfolding mapped
  affine_lt = ltb→lt (affine b) 256 (both_left (ltb (affine b) 256) _ (both_right (eqb (affine (inv_affine b)) b) _ (both_right (eqb (inv_affine (affine b)) b) _ at_b)))

  inv_affine_lt : inv_affine b < 256
  unfolding mapped
  inv_affine_lt = ltb→lt (inv_affine b) 256 (both_right (ltb (affine b) 256) _ (both_right (eqb (affine (inv_affine b)) b) _ (both_right (eqb (inv_affine (affine b)) b) _ at_b)))

pub s_box_lt : (x : ℕ) → x < 256 → s_box x < 256
unfolding s_box
s_box_lt x h = affine_lt (inverse x) (inverse_lt x h)

pub inv_s_box_lt : (x : ℕ) → x < 256 → inv_s_box x < 256
unfolding inv_s_box
inv_s_box_lt x h = inverse_lt (inv_affine x) (inv_affine_lt x h)

pub s_box_undone : (x : ℕ) → x < 256 → inv_s_box (s_box x) ≡ x
unfolding s_box inv_s_box
s_box_undone x h = ap inverse (inv_affine_affine (inverse x) (inverse_lt x h)) ∙ inverse_inverse x h

pub inv_s_box_undone : (x : ℕ) → x < 256 → s_box (inv_s_box x) ≡ x
unfolding s_box inv_s_box
inv_s_box_undone x h = ap affine (inverse_inverse (inv_affine x) (inv_affine_lt x h)) ∙ affine_inv_affine x h

-- the S-box keeps its rule at every byte
pub substitutes : (x s : ℕ) → x < 256 → s ≡ s_box x → Substitutes x s
unfolding s_box
substitutes x s h e = (inverse x, inverse_lt x h, has_inverse x h, e)

pub inv_substitutes : (x s : ℕ) → x < 256 → s ≡ inv_s_box x → Substitutes s x
inv_substitutes x s h e =
    let l = inv_s_box_lt x h in
    substitutes s x (omega arith) (sym (ap s_box e ∙ inv_s_box_undone x h))
