-- Each mask coefficient by its place.
use Rattle.std.proofs.Common.{◌≡◌, ℕ, zero, suc, ◌+◌, ◌-◌, ◌*◌, ◌/◌, ◌%◌, ◌<◌, ◌≤◌, ◌≢◌, map, length, get_or, sym, refl, ap, ◌∙◌, subst, ap₂, le_of_suc-le-suc, not-suc-le-zero, suc-add, zero-add, add-one, arith, length-append}
use native.Mathlib.Decide.{dec_lt}
use Rattle.std.proofs.lemmas.List.{get_or_append_left, get_or-append_right, get_or-map}
use Rattle.field.specs.Mask.{times, singles, pairs, run, by_rest, coefficients}

module _ {E : Type 0} (φ : E → E) where
  times_in : (k : ℕ) (a : E) → times φ k (φ a) ≡ φ (times φ k a)
  unfolding times
  times_in zero a = refl
  times_in (suc k) a = ap φ (times_in k a)

  pub times_add : (j k : ℕ) (a : E) → times φ (j + k) a ≡ times φ j (times φ k a)
  unfolding times
  times_add zero k a = ap (λ t. times φ t a) (zero-add k)
  times_add (suc j) k a = ap (λ t. times φ t a) (suc-add j k) ∙ ap φ (times_add j k a)

  length_singles : (k : ℕ) (a : E) → length (singles φ k a) ≡ k
  unfolding singles
  length_singles zero a = refl
  length_singles (suc k) a = ap suc (length_singles k (φ a))

  at_singles : (k i : ℕ) (a d : E) → i < k → get_or (singles φ k a) i d ≡ times φ i a
  unfolding singles times
  at_singles zero i a d h = absurd (not-suc-le-zero h)
  at_singles (suc k) zero a d h = refl
  at_singles (suc k) (suc i) a d h = at_singles k i (φ a) d (le_of_suc-le-suc h) ∙ times_in i a

  module _ (add : E → E → E) where
    length_pairs : (k : ℕ) (a : E) → length (pairs add φ k a) ≡ k
    unfolding pairs
    length_pairs zero a = refl
    length_pairs (suc k) a = ap suc (length_pairs k (φ (φ a)))

    two_in : (k : ℕ) (a : E) → times φ k (φ (φ a)) ≡ times φ (suc (suc k)) a
    unfolding times
    two_in k a = times_in k (φ a) ∙ ap φ (times_in k a)

    at_pairs : (k i : ℕ) (a d : E) → i < k → get_or (pairs add φ k a) i d ≡ add (times φ (2 * i) a) (times φ (suc (2 * i)) a)
    unfolding pairs times
    at_pairs zero i a d h = absurd (not-suc-le-zero h)
    at_pairs (suc k) zero a d h = refl
    at_pairs (suc k) (suc i) a d h =
        let e : suc (suc (2 * i)) ≡ 2 * suc i = omega arith in
        at_pairs k i (φ (φ a)) d (le_of_suc-le-suc h)
        ∙ ap₂ add (two_in (2 * i) a) (two_in (suc (2 * i)) a)
        ∙ ap (λ t. add (times φ t a) (times φ (suc t) a)) e

    module _ (one d : E) where
      pub length_run : (t : ℕ) → length (run add φ one t) ≡ 3 * t
      unfolding run
      length_run t =
          length-append (singles φ (2 * t) (φ one)) (pairs add φ t (φ one))
          ∙ ap₂ (λ a b. a + b) (length_singles (2 * t) (φ one)) (length_pairs t (φ one)) ∙ omega arith

      pub at_run_low : (t i : ℕ) → i < 2 * t → get_or (run add φ one t) i d ≡ times φ (i + 1) one
      unfolding run times
      at_run_low t i h =
          let k : i < length (singles φ (2 * t) (φ one)) = subst (λ (n : ℕ). i < n) (sym (length_singles (2 * t) (φ one))) h in
          get_or_append_left (singles φ (2 * t) (φ one)) (pairs add φ t (φ one)) d i k
          ∙ at_singles (2 * t) i (φ one) d h ∙ times_in i one ∙ ap (λ n. times φ n one) (sym (add-one i))

      pub at_run_high : (t i j : ℕ) → i ≡ 2 * t + j → i < 3 * t → get_or (run add φ one t) i d ≡ add (times φ (2 * j + 1) one) (times φ (2 * j + 2) one)
      unfolding run times
      at_run_high t i j p hi =
          let k : i - 2 * t ≡ j = omega arith in
          let e : suc (2 * j) ≡ 2 * j + 1 = omega arith in
          let e' : suc (suc (2 * j)) ≡ 2 * j + 2 = omega arith in
          get_or-append_right (singles φ (2 * t) (φ one)) (pairs add φ t (φ one)) (2 * t) i d (length_singles (2 * t) (φ one)) (omega arith)
          ∙ ap (λ n. get_or (pairs add φ t (φ one)) n d) k
          ∙ at_pairs t j (φ one) d (omega arith)
          ∙ ap₂ add (times_in (2 * j) one ∙ ap (λ n. times φ n one) e) (ap φ (times_in (2 * j) one) ∙ ap (λ n. times φ n one) e')

      at_four : (t i : ℕ) → i < 3 → get_or (by_rest add φ one t 1) i d ≡ add (times φ i one) (times φ (i + 1) one)
      unfolding by_rest times
      at_four t zero h = refl
      at_four t (suc zero) h = refl
      at_four t (suc (suc zero)) h = refl
      at_four t (suc (suc (suc i))) h = absurd (omega arith)

      at_four_last : (t : ℕ) → get_or (by_rest add φ one t 1) 3 d ≡ add (times φ 3 one) one
      unfolding by_rest
      at_four_last t = refl

      at_tail : (k s t i : ℕ) → i < 3 * t → get_or (map (times φ s) (run add φ one t)) i d ≡ times φ s (get_or (run add φ one t) i d)
      at_tail k s t i h = get_or-map (times φ s) (run add φ one t) i d d (subst (λ (n : ℕ). i < n) (sym (length_run t)) h)

      at_four_rest : (t i : ℕ) → 4 ≤ i → i < 3 * t + 1 → get_or (by_rest add φ one t 1) i d ≡ times φ 3 (get_or (run add φ one (t - 1)) (i - 4) d)
      unfolding by_rest
      at_four_rest t zero lo hi = absurd (omega arith)
      at_four_rest t (suc zero) lo hi = absurd (omega arith)
      at_four_rest t (suc (suc zero)) lo hi = absurd (omega arith)
      at_four_rest t (suc (suc (suc zero))) lo hi = absurd (omega arith)
      at_four_rest t (suc (suc (suc (suc i)))) lo hi =
          let e : i ≡ suc (suc (suc (suc i))) - 4 = omega arith in
          at_tail 0 3 (t - 1) i (omega arith) ∙ ap (λ n. times φ 3 (get_or (run add φ one (t - 1)) n d)) e

      at_five : (t i : ℕ) → i < 4 → get_or (by_rest add φ one t 2) i d ≡ add (times φ i one) (times φ (i + 1) one)
      unfolding by_rest times
      at_five t zero h = refl
      at_five t (suc zero) h = refl
      at_five t (suc (suc zero)) h = refl
      at_five t (suc (suc (suc zero))) h = refl
      at_five t (suc (suc (suc (suc i)))) h = absurd (omega arith)

      at_five_last : (t : ℕ) → get_or (by_rest add φ one t 2) 4 d ≡ add (times φ 4 one) one
      unfolding by_rest
      at_five_last t = refl

      at_five_rest : (t i : ℕ) → 5 ≤ i → i < 3 * t + 2 → get_or (by_rest add φ one t 2) i d ≡ times φ 4 (get_or (run add φ one (t - 1)) (i - 5) d)
      unfolding by_rest
      at_five_rest t zero lo hi = absurd (omega arith)
      at_five_rest t (suc zero) lo hi = absurd (omega arith)
      at_five_rest t (suc (suc zero)) lo hi = absurd (omega arith)
      at_five_rest t (suc (suc (suc zero))) lo hi = absurd (omega arith)
      at_five_rest t (suc (suc (suc (suc zero)))) lo hi = absurd (omega arith)
      at_five_rest t (suc (suc (suc (suc (suc i))))) lo hi =
          let e : i ≡ suc (suc (suc (suc (suc i)))) - 5 = omega arith in
          at_tail 0 4 (t - 1) i (omega arith) ∙ ap (λ n. times φ 4 (get_or (run add φ one (t - 1)) n d)) e

      -- a coefficient of m by the remainder of m
      pub at_rest : (m i r : ℕ) → m % 3 ≡ r → get_or (by_rest add φ one (m / 3) r) i d ≡ get_or (coefficients add φ one m) i d
      unfolding coefficients
      at_rest m i r e = ap (λ k. get_or (by_rest add φ one (m / 3) k) i d) (sym e)

      pub at_none : (t i : ℕ) → times φ 0 (get_or (run add φ one t) i d) ≡ get_or (by_rest add φ one t 0) i d
      unfolding by_rest times
      at_none t i = refl

      -- the coefficients before the run, as the code finds them
      head_four : (t i : ℕ) (v : E) → i < 4 → (i + 1 < 4 → v ≡ add (times φ i one) (times φ (i + 1) one)) → (i + 1 ≡ 4 → v ≡ add (times φ i one) one)
          → v ≡ get_or (by_rest add φ one t 1) i d
      head_four t i v h inner outer =
          elim (dec_lt i 3) [
            | yes l ↦ inner (omega arith) ∙ sym (at_four t i l)
            | no g ↦ let e : i ≡ 3 = omega arith in
                outer (omega arith) ∙ ap (λ k. add (times φ k one) one) e ∙ sym (at_four_last t) ∙ ap (λ k. get_or (by_rest add φ one t 1) k d) (sym e)
          ]

      head_five : (t i : ℕ) (v : E) → i < 5 → (i + 1 < 5 → v ≡ add (times φ i one) (times φ (i + 1) one)) → (i + 1 ≡ 5 → v ≡ add (times φ i one) one)
          → v ≡ get_or (by_rest add φ one t 2) i d
      head_five t i v h inner outer =
          elim (dec_lt i 4) [
            | yes l ↦ inner (omega arith) ∙ sym (at_five t i l)
            | no g ↦ let e : i ≡ 4 = omega arith in
                outer (omega arith) ∙ ap (λ k. add (times φ k one) one) e ∙ sym (at_five_last t) ∙ ap (λ k. get_or (by_rest add φ one t 2) k d) (sym e)
          ]

      -- the two remainders that have a head, whose length is three more
      pub at_head : (t r i : ℕ) (v : E) → r ≢ 0 → r < 3 → i < r + 3 → (i + 1 < r + 3 → v ≡ add (times φ i one) (times φ (i + 1) one))
          → (i + 1 ≡ r + 3 → v ≡ add (times φ i one) one) → v ≡ get_or (by_rest add φ one t r) i d
      at_head t zero i v ne lt h inner outer = absurd (omega arith)
      at_head t (suc zero) i v ne lt h inner outer = head_four t i v h inner outer
      at_head t (suc (suc zero)) i v ne lt h inner outer = head_five t i v h inner outer
      at_head t (suc (suc (suc r))) i v ne lt h inner outer = absurd (omega arith)

      pub after_head : (t r i : ℕ) → r ≢ 0 → r < 3 → r + 3 ≤ i → i < 3 * t + r
          → get_or (by_rest add φ one t r) i d ≡ times φ (r + 2) (get_or (run add φ one (t - 1)) (i - (r + 3)) d)
      after_head t zero i ne lt lo hi = absurd (omega arith)
      after_head t (suc zero) i ne lt lo hi = at_four_rest t i lo hi
      after_head t (suc (suc zero)) i ne lt lo hi = at_five_rest t i lo hi
      after_head t (suc (suc (suc r))) i ne lt lo hi = absurd (omega arith)
