-- The mask coefficients for m blocks are m and add to zero, in every kind; and the masks that run along are the products with them.
use Rattle.std.proofs.Common.{◌≡◌, ℕ, zero, suc, ◌+◌, ◌-◌, ◌*◌, ◌/◌, ◌%◌, ◌≤◌, List, [], ◌∷◌, ◌++◌, map, length, get_or, sym, refl, ap, ◌∙◌, arith, length-append}
use lib.ListN.{length-map}
use Rattle.field.specs.Mask.{times, singles, pairs, run, by_rest, coefficients, total}
use Rattle.field.proofs.MaskSum as masksum
use Rattle.field.proofs.MaskMap.{coefficients_map, run_map}
use Rattle.kind.specs.Laws.{Ops, Laws, mask_coefficients}
use Rattle.kind.specs.Blocks.{over}
use Rattle.passes.specs.declared.running.Masks.{Masks}
use Rattle.passes.specs.declared.running.Masks.TheVariants.{Alone, Pairs}
use Rattle.passes.specs.Rows.{sum}
use Rattle.passes.specs.Scheme.{with_mask, with_masks}
use Rattle.passes.specs.Running.{mask_now, mask_next, first_by, first_masks}
use Rattle.passes.proofs.Algebra.{each_suc, zero_add, one_mul, distrib_right}

length_singles : {E : Type 0} (φ : E → E) (k : ℕ) (a : E) → length (singles φ k a) ≡ k
unfolding singles
length_singles φ zero a = refl
length_singles φ (suc k) a = ap suc (length_singles φ k (φ a))

length_pairs : {E : Type 0} (add : E → E → E) (φ : E → E) (k : ℕ) (a : E) → length (pairs add φ k a) ≡ k
unfolding pairs
length_pairs add φ zero a = refl
length_pairs add φ (suc k) a = ap suc (length_pairs add φ k (φ (φ a)))

length_run : {E : Type 0} (add : E → E → E) (φ : E → E) (one : E) (t : ℕ) → length (run add φ one t) ≡ 3 * t
unfolding run
length_run add φ one t =
    omega (arith, length-append (singles φ (2 * t) (φ one)) (pairs add φ t (φ one)), length_singles φ (2 * t) (φ one), length_pairs add φ t (φ one))

length_by_rest : {E : Type 0} (add : E → E → E) (φ : E → E) (one : E) (t r : ℕ) → r ≤ 2 → 1 ≤ t → length (by_rest add φ one t r) ≡ 3 * t + r
unfolding by_rest
length_by_rest add φ one t zero hr ht = omega (arith, length_run add φ one t)
length_by_rest add φ one t (suc zero) hr ht = omega (arith, length-map (run add φ one (t - 1)) (times φ 3), length_run add φ one (t - 1))
length_by_rest add φ one t (suc (suc zero)) hr ht = omega (arith, length-map (run add φ one (t - 1)) (times φ 4), length_run add φ one (t - 1))
length_by_rest add φ one t (suc (suc (suc r))) hr ht = absurd (omega arith)

times_by : {E : Type 0} (φ : E → E) (k : ℕ) (a : E) → times φ k (φ a) ≡ φ (times φ k a)
unfolding times
times_by φ zero a = refl
times_by φ (suc k) a = ap φ (times_by φ k a)

module _ {K : Type 0} {F : Ops K} (law : Laws F) where
  open F use {add as ◌⊕◌, mul as ◌·◌, one, x}

  infixl 60 ◌⊕◌
  infixl 70 ◌·◌
  abbrev by : K → K
  by = F.mul x

  sum_total : (bs : List K) → sum F bs ≡ total F.add F.zero bs
  unfolding total
  sum_total [] = refl
  sum_total (b ∷ bs) = ap (λ t. b ⊕ t) (sum_total bs)

  pub sum_coefficients : (m : ℕ) → sum F (mask_coefficients F m) ≡ F.zero
  sum_coefficients m =
      sum_total (mask_coefficients F m)
      ∙ masksum.coefficients_zero F.add F.zero by law.add_assoc (zero_add law) law.add_self (law.distrib x) one m

  pub length_coefficients : (m : ℕ) → 3 ≤ m → length (mask_coefficients F m) ≡ m
  unfolding coefficients
  length_coefficients m h = length_by_rest F.add by one (m / 3) (m % 3) (omega arith) (omega arith) ∙ omega arith

  -- the coefficients, each times v
  coefficients_times : (v : K) (m : ℕ) → map (λ c. c · v) (mask_coefficients F m) ≡ coefficients F.add by v m
  coefficients_times v m =
      coefficients_map (λ c. c · v) F.add F.add by by (λ a b. distrib_right law a b v) (λ a. law.mul_assoc x a v) one m
      ∙ ap (λ w. coefficients F.add by w m) (one_mul law v)

  -- the next k masks
  stream : ℕ → Masks K → List K
  stream zero s = []
  stream (suc k) s = mask_now F s ∷ stream k (mask_next F s)

  stream_pairs : (k : ℕ) (a : K) → stream k (Pairs a) ≡ pairs F.add by k a
  unfolding stream pairs
  stream_pairs zero a = refl
  stream_pairs (suc k) a = ap (λ t. (a ⊕ x · a) ∷ t) (stream_pairs k (x · (x · a)))

  stream_run : (n k t : ℕ) (b a : K) → n ≡ k + t → (k ≡ 0 → n ≡ 0) → stream n (Alone b a k) ≡ singles by k a ++ pairs F.add by t b
  unfolding stream singles pairs
  stream_run zero zero zero b a e h = refl
  stream_run zero zero (suc t) b a e h = absurd (omega arith)
  stream_run (suc n) zero t b a e h = let q : suc n ≡ 0 = h refl in absurd (omega arith)
  stream_run zero (suc k) t b a e h = absurd (omega arith)
  stream_run (suc n) (suc zero) t b a e h =
      let q : n ≡ t = omega arith in ap (λ u. a ∷ u) (ap (λ n. stream n (Pairs b)) q ∙ stream_pairs t b)
  stream_run (suc n) (suc (suc k)) t b a e h = ap (λ u. a ∷ u) (stream_run n (suc k) t b (x · a) (omega arith) (λ z. absurd (omega arith)))

  run_at : (n t : ℕ) (v : K) → n ≡ 3 * t → stream n (Alone (x · v) (x · v) (2 * t)) ≡ run F.add by v t
  unfolding run
  run_at n t v e = stream_run n (2 * t) t (x · v) (x · v) (omega arith) (λ z. omega arith)

  -- a run of multiples
  run_times : (k t : ℕ) (v : K) → map (times by k) (run F.add by v t) ≡ run F.add by (times by k v) t
  run_times k t v =
      run_map (times by k) F.add F.add by by
      (masksum.times_linear F.add F.zero by law.add_assoc (zero_add law) law.add_self (law.distrib x) k) (times_by by k) v t

  stream_by : (m t r : ℕ) (v : K) → m ≡ 3 * t + r → r ≤ 2 → 1 ≤ t → stream m (first_by F v t r) ≡ by_rest F.add by v t r
  unfolding by_rest stream times
  stream_by m t zero v e hr ht = run_at m t v (omega arith)
  stream_by (suc (suc (suc (suc m)))) t (suc zero) v e hr ht =
      ap (λ u. (v ⊕ x · v) ∷ (x · v ⊕ x · (x · v)) ∷ (x · (x · v) ⊕ x · (x · (x · v))) ∷ (x · (x · (x · v)) ⊕ v) ∷ u)
      (run_at m (t - 1) (x · (x · (x · v))) (omega arith) ∙ sym (run_times 3 (t - 1) v))
  stream_by (suc (suc (suc (suc (suc m))))) t (suc (suc zero)) v e hr ht =
      ap (λ u. (v ⊕ x · v) ∷ (x · v ⊕ x · (x · v)) ∷ (x · (x · v) ⊕ x · (x · (x · v))) ∷ (x · (x · (x · v)) ⊕ x · (x · (x · (x · v)))) ∷ (x · (x · (x · (x · v))) ⊕ v) ∷ u)
      (run_at m (t - 1) (x · (x · (x · (x · v)))) (omega arith) ∙ sym (run_times 4 (t - 1) v))
  stream_by zero t (suc r) v e hr ht = absurd (omega arith)
  stream_by (suc zero) t (suc r) v e hr ht = absurd (omega arith)
  stream_by (suc (suc zero)) t (suc r) v e hr ht = absurd (omega arith)
  stream_by (suc (suc (suc zero))) t (suc r) v e hr ht = absurd (omega arith)
  stream_by (suc (suc (suc (suc zero)))) t (suc (suc r)) v e hr ht = absurd (omega arith)
  stream_by (suc (suc (suc (suc (suc m))))) t (suc (suc (suc r))) v e hr ht = absurd (omega arith)

  stream_all : (m : ℕ) (v : K) → 3 ≤ m → stream m (first_masks F v m) ≡ map (λ c. c · v) (mask_coefficients F m)
  unfolding coefficients
  stream_all m v h = stream_by m (m / 3) (m % 3) v (omega arith) (omega arith) (omega arith) ∙ sym (coefficients_times v m)

  -- two rows, block by block
  added : List K → List K → List K
  added [] ms = []
  added (b ∷ bs) [] = []
  added (b ∷ bs) (n ∷ ms) = (b ⊕ n) ∷ added bs ms

  masks_added : (s : Masks K) (bs : List K) → over (λ s b. b ⊕ mask_now F s) (λ s b. mask_next F s) s bs ≡ added bs (stream (length bs) s)
  unfolding over stream added
  masks_added s [] = refl
  masks_added s (b ∷ bs) = ap (λ t. (b ⊕ mask_now F s) ∷ t) (masks_added (mask_next F s) bs)

  added_each : (v : K) (cs bs : List K) → length bs ≡ length cs → added bs (map (λ c. c · v) cs) ≡ with_masks F (λ i. get_or cs i F.zero · v) bs
  unfolding added
  added_each v cs [] e = refl
  added_each v [] (b ∷ bs) e = absurd (omega arith)
  added_each v (c ∷ cs) (b ∷ bs) e =
      ap (λ t. (b ⊕ c · v) ∷ t) (added_each v cs bs (omega arith) ∙ sym (each_suc (with_mask F (λ i. get_or (c ∷ cs) i F.zero · v)) 0 bs))

  -- the walk with the masks adds the products of v and the coefficients
  pub masks_over : (m : ℕ) (v : K) (bs : List K) → 3 ≤ m → length bs ≡ m
      → over (λ s b. b ⊕ mask_now F s) (λ s b. mask_next F s) (first_masks F v m) bs ≡ with_masks F (λ i. get_or (mask_coefficients F m) i F.zero · v) bs
  masks_over m v bs h l =
      masks_added (first_masks F v m) bs ∙ ap (λ n. added bs (stream n (first_masks F v m))) l ∙ ap (added bs) (stream_all m v h)
      ∙ added_each v (mask_coefficients F m) bs (l ∙ sym (length_coefficients m h))
