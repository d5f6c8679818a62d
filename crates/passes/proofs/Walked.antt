-- The walks over a buffer, in the words of the scheme.
use Rattle.std.proofs.Common.{◌≡◌, ℕ, zero, suc, ◌+◌, ◌*◌, ◌<◌, ◌≤◌, Some, None, List, [], ◌∷◌, ◌++◌, Bor, length, take, drop, sym, refl, ap, ◌∙◌, ap₂, inl, inr, arith, suc-mul, zero-mul, length-append}
use mathlib.Core.Path.{fun_ext}
use Rattle.std.proofs.lemmas.List.{take_at, drop_at}
use Rattle.field.specs.Bytes.{Size}
use Rattle.kind.specs.Laws.{Ops, Laws}
use Rattle.kind.specs.Blocks.{blocks, flat, over}
use Rattle.kind.proofs.Buffers.{blocks_flat, blocks_length}
use Rattle.kind.specs.declared.block.Block as block
use Rattle.cipher.specs.declared.Cipher as cipher
use Rattle.passes.specs.declared.running.Masks.{Masks}
use Rattle.passes.specs.declared.running.Pair.{Pair}
use Rattle.passes.specs.declared.terms.Terms.{Terms}
use Rattle.passes.specs.declared.work.Work.{Work}
use Rattle.passes.specs.Changed.{Changed}
use Rattle.passes.specs.Rows.{pow, sum, each, on_blocks}
use Rattle.passes.specs.Scheme.{times_power, times_powers, with_masks, mask, at_first, value}
use Rattle.passes.specs.Running.{power_now, power_next, pair_next, mask_now, mask_next, first_masks}
use Rattle.passes.proofs.Algebra.{one_mul}
use Rattle.passes.proofs.Coefficients.{masks_over}
use Rattle.passes.proofs.Counts.{by_count_many, by_count_one, by_count_two}

-- no block is empty
pub size_pos : (n : ℕ) → Size n → 0 < n
size_pos n (inl e) = omega arith
size_pos n (inr (inl e)) = omega arith
size_pos n (inr (inr (inl e))) = omega arith
size_pos n (inr (inr (inr (inl e)))) = omega arith
size_pos n (inr (inr (inr (inr e)))) = omega arith

-- one change of a buffer after another
pub then_on : {K : Type 0} {F : Ops K} (law : Laws F) (m : ℕ) (f g : List K → List K) (old bs cs : List ℕ) → ((ks : List K) → length (f ks) ≡ length ks)
    → bs ≡ on_blocks F m f old → cs ≡ on_blocks F m g bs → cs ≡ on_blocks F m (λ ks. g (f ks)) old
then_on {F = F} law m f g old bs cs keeps p q =
    q ∙ ap (on_blocks F m g) p ∙ ap (λ z. flat F (g z)) (blocks_flat F law (f (blocks F m old)) m (keeps (blocks F m old) ∙ blocks_length F m old))

module _ {C K : Type 0} {c : cipher.Ghosts C K} {k : block.Ghosts K} where
  -- one change after another, the second told by the cipher and the terms that it finds
  pub then : Laws k.ops → (f : List K → List K) (g : Bor C → Bor (Terms K) → List K → List K) (a b d : Work C K c k) → ((ks : List K) → length (f ks) ≡ length ks)
      → Changed f a b → Changed (g b.cipher b.terms) b d → Changed (λ ks. g a.cipher a.terms (f ks)) a d
  then law f g a b d keeps p q =
      let m = a.terms.now.m in
      record {
        cipher = q.cipher ∙ p.cipher;
        terms = q.terms ∙ p.terms;
        buffer = q.buffer ∙ p.buffer;
        bytes = then_on law m f (g a.cipher a.terms) a.bytes.now b.bytes.now d.bytes.now keeps p.bytes
            (q.bytes ∙ ap₂ (λ r t. on_blocks k.ops t.now.m (g r t) b.bytes.now) p.cipher p.terms);
      }

  -- a change by another name, the same at the blocks that are there
  pub as_change_here : (f g : List K → List K) (a b : Work C K c k) → (length (blocks k.ops a.terms.now.m a.bytes.now) ≡ a.terms.now.m → g (blocks k.ops a.terms.now.m a.bytes.now) ≡ f (blocks k.ops a.terms.now.m a.bytes.now))
      → Changed g a b → Changed f a b
  as_change_here f g a b h p =
      record {
        cipher = p.cipher;
        terms = p.terms;
        buffer = p.buffer;
        bytes = p.bytes ∙ ap (flat k.ops) (h (blocks_length k.ops a.terms.now.m a.bytes.now));
      }

  -- or at any that are as many
  pub as_change : (f g : List K → List K) (a b : Work C K c k) → ((ks : List K) → length ks ≡ a.terms.now.m → g ks ≡ f ks) → Changed g a b → Changed f a b
  as_change f g a b h p = as_change_here f g a b (h (blocks k.ops a.terms.now.m a.bytes.now)) p

  -- what a change leaves of the buffer that the work was made on
  pub on_buffer : (f : C → Terms K → List K → List K) (a b : Work C K c k) (r : C) (t : Terms K) (old : List ℕ) → a.cipher.now ≡ r → a.terms.now ≡ t → a.bytes.now ≡ old
      → Changed (f a.cipher.now a.terms.now) a b → b.bytes.now ≡ on_blocks k.ops t.m (f r t) old
  on_buffer f a b r t old e u w p = p.bytes ∙ ap₂ (λ r t. on_blocks k.ops t.m (f r t) a.bytes.now) e u ∙ ap (on_blocks k.ops t.m (f r t)) w

-- the value of the masks, from the calls that make it
pub mask_value : {K : Type 0} (F : Ops K) (E : K → K) (ks : List K) (end s a v : K) → s ≡ sum F ks → a ≡ F.add s end → v ≡ E a → v ≡ value F E end ks
mask_value F E ks end s a v p q r = r ∙ ap E (q ∙ ap (λ z. F.add z end) p)

module _ {K : Type 0} {F : Ops K} (law : Laws F) where
  -- from the second block on: `left` blocks are enough for those that come
  later_powers : (r p : K) (left i : ℕ) (bs : List K) → p ≡ pow F r i → length bs ≤ left
      → over (power_now F) (λ s b. power_next F s) (record { r = r; power = Some p; left = left }) bs ≡ each (times_power F r) i bs
  unfolding over
  later_powers r p left i [] e h = refl
  later_powers r p zero i (b ∷ bs) e h = absurd (omega arith)
  later_powers r p (suc zero) i (b ∷ []) e h = ap (λ q. F.mul q b ∷ []) e
  later_powers r p (suc zero) i (b ∷ c ∷ bs) e h = absurd (omega arith)
  later_powers r p (suc (suc n)) i (b ∷ bs) e h =
      ap₂ ◌∷◌ (ap (λ q. F.mul q b) e)
      (later_powers r (F.mul p r) (suc n) (suc i) bs (law.mul_comm p r ∙ ap (F.mul r) e) (omega arith))

  pub powers_over : (r : K) (left : ℕ) (bs : List K) → length bs ≤ left + 1
      → over (power_now F) (λ s b. power_next F s) (record { r = r; power = None; left = left }) bs ≡ times_powers F r bs
  unfolding over
  powers_over r left [] h = refl
  powers_over r left (b ∷ bs) h =
      ap₂ ◌∷◌ (sym (one_mul law b)) (later_powers r r left 1 bs (sym (law.mul_one r)) (omega arith))

  pub pair_over : (n : ℕ → K) (s : Pair K) (bs : List K) → length bs ≤ 2 → s.first ≡ n 0 → s.second ≡ n 1
      → over (λ s b. F.add b s.first) (λ s b. pair_next s) s bs ≡ with_masks F n bs
  unfolding over
  pair_over n s [] h e f = refl
  pair_over n s (b ∷ []) h e f = ap (λ t. F.add b t ∷ []) e
  pair_over n s (b ∷ c ∷ []) h e f = ap₂ (λ t u. F.add b t ∷ F.add c u ∷ []) e f
  pair_over n s (b ∷ c ∷ d ∷ bs) h e f = absurd (omega arith)

  pub few_mask : (t : Terms K) (single v : K) → t.m ≤ 1 → (i : ℕ) → single ≡ mask F t single v i
  few_mask t single v h i = sym (by_count_one t.m single _ _ h)

  pub pair_mask : (t : Terms K) (single v : K) → t.m ≡ 2 → (i : ℕ) → F.add v (at_first i t.en t.een) ≡ mask F t single v i
  pair_mask t single v h i = sym (by_count_two t.m single _ _ h)

  pub many_over : (t : Terms K) (single v : K) (s : Masks K) (bs : List K) → 3 ≤ t.m → s ≡ first_masks F v t.m → length bs ≡ t.m
      → over (λ s b. F.add b (mask_now F s)) (λ s b. mask_next F s) s bs ≡ with_masks F (mask F t single v) bs
  many_over t single v s bs h e l =
      ap (λ z. over (λ s b. F.add b (mask_now F s)) (λ s b. mask_next F s) z bs) e
      ∙ masks_over law t.m v bs h l
      ∙ ap (λ n. with_masks F n bs) (fun_ext (λ i. sym (by_count_many t.m single _ _ h)))

  -- A running sum: t is the sum so far, and k blocks are left.
  abbrev pub Summed : K → List ℕ → K → Type 0
  Summed t rest S = (k : ℕ) × (length rest ≡ k * F.size) × (F.add t (sum F (blocks F k rest)) ≡ S)

  pub sum_more : (bs x rest : List ℕ) (b t t' S : K) → bs ≡ x ++ rest → length x ≡ F.size → b ≡ F.block x → t' ≡ F.add t b → Summed t bs S → Summed t' rest S
  unfolding blocks
  sum_more bs x rest b t t' S e l read step (zero, whole, so_far) =
      let n : length bs ≡ length x + length rest = ap length e ∙ length-append x rest in
      let h : 0 < F.size = size_pos F.size law.sizes in
      absurd (omega (arith, zero-mul F.size))
  sum_more bs x rest b t t' S e l read step (suc k, whole, so_far) =
      let n : length bs ≡ length x + length rest = ap length e ∙ length-append x rest in
      let front : b ≡ F.block (take F.size bs) = read ∙ ap F.block (sym (take_at x rest F.size l) ∙ ap (take F.size) (sym e)) in
      let behind : drop F.size bs ≡ rest = ap (drop F.size) e ∙ drop_at x rest F.size l in (
        k,
        omega (arith, suc-mul k F.size),
        ap₂ (λ u r. F.add u (sum F (blocks F k r))) (step ∙ ap (F.add t) front) (sym behind)
            ∙ law.add_assoc t _ _ ∙ so_far,
      )

  pub sum_all : (bs : List ℕ) (t S : K) → length bs < F.size → Summed t bs S → t ≡ S
  unfolding blocks
  sum_all bs t S short (zero, whole, so_far) = sym (law.add_zero t) ∙ so_far
  sum_all bs t S short (suc k, whole, so_far) = absurd (omega (arith, suc-mul k F.size))
