-- What a buffer of m blocks holds, and what a write of one block does to it.
use Rattle.std.proofs.Common.{◌≡◌, ℕ, zero, suc, ◌+◌, ◌-◌, ◌*◌, ◌<◌, ◌≤◌, List, [], ◌∷◌, ◌++◌, length, get_or, take, drop, set, sym, refl, ap, ◌∙◌, subst, ap₂, mul-le-mul_right, suc-mul, add_comm, zero-mul, arith, length-drop, length-take}
use native.Mathlib.Decide.{dec_lt}
use borrow.Rule.Slice.PartMut.{put_mid}
use Rattle.std.proofs.lemmas.List.{drop-drop, take_at, drop_at, drop-append-le, drop-take, length-take-le, take-append-drop, get_or-take, get_or-drop, get_or_past, nil_from_length}
use Rattle.std.proofs.lemmas.Slice.{take-put_mid_below}
use Rattle.kind.specs.Laws.{Ops, Laws, Bytes}
use Rattle.kind.specs.Blocks.{blocks, flat}

-- block i lies within a buffer of m blocks
pub within : (m i n len : ℕ) → len ≡ m * n → i < m → i * n + n ≤ len
within m i n len e h = let q : suc i * n ≤ m * n = mul-le-mul_right n h in omega (arith, suc-mul i n)

put_behind : (s a k : ℕ) (bs ys : List ℕ) → s + a ≤ length bs → drop s (put_mid (s + a) k bs ys) ≡ put_mid a k (drop s bs) ys
put_behind s a k bs ys h =
    let l : s ≤ length (take (s + a) bs) = simp length-take (omega arith) in
    drop-append-le s (take (s + a) bs) (ys ++ drop k (drop (s + a) bs)) l
    ∙ ap₂ ◌++◌ (drop-take s a bs) (ap (λ z. ys ++ drop k z) (sym (drop-drop a s bs)))

module _ {K : Type 0} (o : Ops K) where
  pub blocks_length : (m : ℕ) (bs : List ℕ) → length (blocks o m bs) ≡ m
  unfolding blocks
  blocks_length zero bs = refl
  blocks_length (suc m) bs = ap suc (blocks_length m (drop o.size bs))

  pub blocks_at : (m i : ℕ) (bs : List ℕ) (d : K) → i < m → get_or (blocks o m bs) i d ≡ o.block (take o.size (drop (i * o.size) bs))
  unfolding blocks
  blocks_at zero i bs d h = absurd (omega arith)
  blocks_at (suc m) zero bs d h = rw zero-mul
  blocks_at (suc m) (suc i) bs d h =
      let l : i < m = omega arith in
      blocks_at m i (drop o.size bs) d l ∙ ap (λ z. o.block (take o.size z)) (drop-drop (i * o.size) o.size bs ∙ ap (λ n. drop n bs) (add_comm o.size (i * o.size) ∙ sym (suc-mul i o.size)))

  -- the write of the bytes ys at block i
  pub blocks_put : (m i : ℕ) (bs ys : List ℕ) → i < m → length bs ≡ m * o.size → length ys ≡ o.size
      → blocks o m (put_mid (i * o.size) o.size bs ys) ≡ set (blocks o m bs) i (o.block ys)
  unfolding blocks
  blocks_put zero i bs ys h e f = absurd (omega arith)
  blocks_put (suc m) zero bs ys h e f = rw (zero-mul, take_at ys (drop o.size bs) o.size f, drop_at ys (drop o.size bs) o.size f)
  blocks_put (suc m) (suc i) bs ys h e f =
      let s = o.size in
      let l : i < m = omega arith in
      let q : suc (suc i) * s ≤ suc m * s = mul-le-mul_right s h in
      let n : suc i * s ≡ s + i * s = suc-mul i s ∙ add_comm (i * s) s in
      let r : s + i * s ≤ length bs = omega (arith, suc-mul (suc i) s, suc-mul i s) in
      let b : length (drop s bs) ≡ m * s = length-drop s bs ∙ omega (arith, suc-mul m s) in
      ap (λ a. blocks o (suc m) (put_mid a s bs ys)) n
      ∙ ap₂ ◌∷◌ (ap o.block (take-put_mid_below (s + i * s) s bs ys s (omega arith) r)) (ap (blocks o m) (put_behind s (i * s) s bs ys r) ∙ blocks_put m i (drop s bs) ys l b f)

  module _ (laws : Laws o) where
    -- the write of the block k
    pub blocks_store : (m i n e : ℕ) (bs ys : List ℕ) (k : K) → n ≡ o.size → e ≡ i * n + n → i < m → length bs ≡ m * o.size → ys ≡ o.bytes k
        → blocks o m (put_mid (i * n) (e - i * n) bs ys) ≡ set (blocks o m bs) i k
    blocks_store m i n e bs ys k p q h l y =
        let w : e - i * n ≡ o.size = omega arith in
        ap (λ z. blocks o m (put_mid (i * z) (e - i * n) bs ys)) p
        ∙ ap (λ z. blocks o m (put_mid (i * o.size) z bs ys)) w
        ∙ blocks_put m i bs ys h l (ap length y ∙ laws.bytes_length k)
        ∙ ap (λ z. set (blocks o m bs) i z) (ap o.block y ∙ laws.block_bytes k)

  pub blocks_load : (m i n e : ℕ) (bs : List ℕ) (k d : K) → n ≡ o.size → e ≡ i * n + n → i < m → k ≡ o.block (take (e - i * n) (drop (i * n) bs)) → k ≡ get_or (blocks o m bs) i d
  blocks_load m i n e bs k d p q h y =
      let w : e - i * n ≡ o.size = omega arith in
      y ∙ ap (λ z. o.block (take z (drop (i * n) bs))) w ∙ ap (λ z. o.block (take o.size (drop (i * z) bs))) p ∙ sym (blocks_at m i bs d h)

bytes_front : (n : ℕ) (bs : List ℕ) → Bytes bs → Bytes (take n bs)
bytes_front n bs h i =
    elim (dec_lt i n) [
      | yes l ↦ subst (λ z. z < 256) (sym (get_or-take n bs i 0 l)) (h i)
      | no l ↦ subst (λ z. z < 256) (sym (get_or_past (take n bs) i 0 (simp length-take (omega arith)))) (omega arith)
    ]

bytes_behind : (n : ℕ) (bs : List ℕ) → Bytes bs → Bytes (drop n bs)
bytes_behind n bs h i = subst (λ z. z < 256) (sym (get_or-drop n bs i 0)) (h (n + i))

module _ {K : Type 0} (o : Ops K) (laws : Laws o) where
  -- a buffer of bytes is its blocks, one after another
  pub flat_blocks : (m : ℕ) (bs : List ℕ) → length bs ≡ m * o.size → Bytes bs → flat o (blocks o m bs) ≡ bs
  unfolding blocks flat
  flat_blocks zero bs e h = sym (nil_from_length bs (e ∙ zero-mul o.size))
  flat_blocks (suc m) bs e h =
      let s = o.size in
      let w : s ≤ length bs = omega (arith, suc-mul m s) in
      ap₂ ◌++◌ (laws.bytes_block (take s bs) (length-take-le s bs w) (bytes_front s bs h))
      (flat_blocks m (drop s bs) (length-drop s bs ∙ omega (arith, suc-mul m s)) (bytes_behind s bs h))
      ∙ take-append-drop s bs

  -- the blocks of some blocks' bytes are those blocks
  pub blocks_flat : (ks : List K) (m : ℕ) → length ks ≡ m → blocks o m (flat o ks) ≡ ks
  unfolding blocks flat
  blocks_flat [] zero e = refl
  blocks_flat [] (suc m) e = absurd (omega arith)
  blocks_flat (k ∷ ks) zero e = absurd (omega arith)
  blocks_flat (k ∷ ks) (suc m) e =
      let l : length ks ≡ m = omega arith in
      ap₂ ◌∷◌ (ap o.block (take_at (o.bytes k) (flat o ks) o.size (laws.bytes_length k)) ∙ laws.block_bytes k)
      (ap (blocks o m) (drop_at (o.bytes k) (flat o ks) o.size (laws.bytes_length k)) ∙ blocks_flat ks m l)

  -- so a buffer is decided by its blocks
  pub bytes_from_blocks : (m : ℕ) (bs : List ℕ) (ks : List K) → length bs ≡ m * o.size → Bytes bs → blocks o m bs ≡ ks → bs ≡ flat o ks
  bytes_from_blocks m bs ks e h p = sym (flat_blocks m bs e h) ∙ ap (flat o) p
