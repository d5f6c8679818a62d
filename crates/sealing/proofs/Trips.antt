-- Sealing and unsealing of bytes: there and back, and the one dead tweak.
use Rattle.std.proofs.Common.{◌≡◌, ℕ, suc, ◌*◌, ◌/◌, ◌%◌, ◌<◌, ◌≤◌, Bool, true, false, cond, eqb, leb, ◌≢◌, ◌⊎◌, ◌↔◌, List, [], ◌∷◌, ◌++◌, length, Some, None, Ok, Err, Option, Result, sym, refl, ap, ◌∙◌, inl, inr, mul-le-mul_right, suc-mul, div-add-mod', zero-mul, mul-div_cancel, arith, length-append}
use native.Mathlib.Nat.{mul-mod_left}
use Rattle.std.proofs.lemmas.Bool.{eqb-true, leb-true, eq-eqb, ne_eqb, le-leb, lt-leb}
use Rattle.kind.specs.Laws.{Ops, Laws, Bytes}
use Rattle.kind.specs.Blocks.{blocks, flat}
use Rattle.kind.proofs.Buffers.{blocks_flat, blocks_length, flat_blocks}
use Rattle.fault.specs.declared.SealFault.{SealFault}
use Rattle.fault.specs.declared.SealFault.TheVariants.{TweakLength, NotWholeBlocks, TooManyBlocks}
use Rattle.fault.specs.Faults.{dead_tweak}
use Rattle.passes.specs.declared.terms.Terms.{Terms}
use Rattle.passes.specs.Rows.{on_blocks}
use Rattle.passes.specs.Scheme as scheme
use Rattle.passes.proofs.RoundTrip as trip
use Rattle.passes.proofs.RoundTrip.{Ready}
use Rattle.passes.proofs.Coefficients.{length_coefficients, sum_coefficients}
use Rattle.sealing.specs.Mode.{Maps, Inverse, sealed, unsealed, begun, sealing, unsealing, checked, with_inverse, Tweak, Buffer, Accepts, Dead, ThereAndBack, OneDeadTweak, Promises, Promised, maps}
use Rattle.passes.proofs.Walked.{size_pos}
use Rattle.sealing.proofs.Agree.{sealed_agrees, unsealed_agrees, length_sealed, length_unsealed}

bytes_append : (xs ys : List ℕ) → Bytes xs → Bytes ys → Bytes (xs ++ ys)
bytes_append [] ys h k i = k i
bytes_append (x ∷ xs) ys h k ℕ.zero = h 0
bytes_append (x ∷ xs) ys h k (suc i) = bytes_append xs ys (λ j. h (suc j)) k i

module _ {K : Type 0} {F : Ops K} (law : Laws F) where
  open F use {mul as ◌·◌, zero, one, inverse, size}

  pub flat_bytes : (ks : List K) → Bytes (flat F ks)
  unfolding flat
  flat_bytes [] i = omega arith
  flat_bytes (k ∷ ks) i = bytes_append (F.bytes k) (flat F ks) (law.bytes_bytes k) (flat_bytes ks) i

  pub flat_length : (ks : List K) → length (flat F ks) ≡ length ks * size
  unfolding flat
  flat_length [] = sym (zero-mul size)
  flat_length (k ∷ ks) = omega (arith, length-append (F.bytes k) (flat F ks), law.bytes_length k, flat_length ks, suc-mul (length ks) size)

  abbrev pub nest : {A : Type 0} → Bool → Bool → Bool → Bool → Bool → Option K → (K → A) → Result A SealFault
  nest b₁ b₂ b₃ b₄ b₅ o f =
      cond b₁ (cond b₂ (Err NotWholeBlocks) (cond b₃ (cond b₄ (cond b₅ (Ok (f zero)) (with_inverse F o f)) (Err TooManyBlocks)) (Err NotWholeBlocks))) (Err TweakLength)

  -- where a call is accepted: the L that it used, and that any other call with this length and tweak is accepted too
  pub record Met (b₁ b₂ b₃ b₄ b₅ : Bool) (o : Option K) (f : K → List ℕ) (a : List ℕ) : Type 0 where
    pub L : K
    pub whole : b₃ ≡ true
    pub ready : (b₅ ≡ true) ⊎ (o ≡ Some L)
    pub gives : f L ≡ a
    pub all : (g : K → List ℕ) → nest b₁ b₂ b₃ b₄ b₅ o g ≡ Ok (g L)

  met : (b₁ b₂ b₃ b₄ b₅ : Bool) (o : Option K) (f : K → List ℕ) (a : List ℕ) → nest b₁ b₂ b₃ b₄ b₅ o f ≡ Ok a → Met b₁ b₂ b₃ b₄ b₅ o f a
  met false b₂ b₃ b₄ b₅ o f a e = let z : ◌≡◌ {A = ℕ} 0 1 = cc in absurd (omega arith)
  met true true b₃ b₄ b₅ o f a e = let z : ◌≡◌ {A = ℕ} 0 1 = cc in absurd (omega arith)
  met true false false b₄ b₅ o f a e = let z : ◌≡◌ {A = ℕ} 0 1 = cc in absurd (omega arith)
  met true false true false b₅ o f a e = let z : ◌≡◌ {A = ℕ} 0 1 = cc in absurd (omega arith)
  met true false true true true o f a e = record { L = zero; whole = refl; ready = inl refl; gives = cc; all = λ g. refl }
  met true false true true false None f a e = let z : ◌≡◌ {A = ℕ} 0 1 = cc in absurd (omega arith)
  met true false true true false (Some l) f a e = record { L = l; whole = refl; ready = inr refl; gives = cc; all = λ g. refl }

  abbrev pub Accepted : ℕ → ℕ → Option K → (K → List ℕ) → List ℕ → Type 0
  Accepted t len o f a = Met (eqb t size) (eqb len 0) (eqb (len % size) 0) (leb (len / size) 64) (leb (len / size) 1) o f a

  pub accepted : (t len : ℕ) (o : Option K) (f : K → List ℕ) (a : List ℕ) → checked F t len o f ≡ Ok a → Accepted t len o f a
  accepted t len o f a e = met (eqb t size) (eqb len 0) (eqb (len % size) 0) (leb (len / size) 64) (leb (len / size) 1) o f a e

  pub whole_is : (len : ℕ) → eqb (len % size) 0 ≡ true → len ≡ len / size * size
  whole_is len e = let r : len % size ≡ 0 = eqb-true (len % size) 0 e in omega (arith, div-add-mod' len size)

  ready_by : (m : ℕ) (R L : K) → (leb m 1 ≡ true) ⊎ (inverse R ≡ Some L) → Ready law m R L
  ready_by ℕ.zero R L w = tt
  ready_by (suc ℕ.zero) R L w = tt
  ready_by (suc (suc k)) R L (inl e) = absurd (let h : suc (suc k) ≤ 1 = leb-true (suc (suc k)) 1 e in omega arith)
  ready_by (suc (suc k)) R L (inr e) = law.mul_comm L R ∙ law.inverse_some R L e

  module _ (c : Maps K) (inv : Inverse c) where
    open c use {E, D}

    -- the rules undo each other on blocks
    unsealed_sealed : (s : Terms K) (L : K) → Ready law s.m s.r L → (bs : List K) → length bs ≡ s.m → unsealed F c s L (sealed F c s bs) ≡ bs
    unsealed_sealed s L q bs l =
        sym (unsealed_agrees law c s (sealed F c s bs) (length_sealed law c s bs ∙ l) L) ∙ ap (scheme.unsealed F E D s L) (sym (sealed_agrees law c s bs l))
        ∙ trip.unsealed_sealed law E D inv.DE inv.ED s.r s.en s.een L s.m q bs l

    sealed_unsealed : (s : Terms K) (L : K) → Ready law s.m s.r L → (bs : List K) → length bs ≡ s.m → sealed F c s (unsealed F c s L bs) ≡ bs
    sealed_unsealed s L q bs l =
        sym (sealed_agrees law c s (unsealed F c s L bs) (length_unsealed law c s L bs ∙ l)) ∙ ap (scheme.sealed F E D s) (sym (unsealed_agrees law c s bs l L))
        ∙ trip.sealed_unsealed law E D inv.DE inv.ED s.r s.en s.een L s.m q bs l

    -- what a change of the blocks leaves, undone
    undone : (m : ℕ) (f g : List K → List K) (bs cs : List ℕ) → length bs ≡ m * size → Bytes bs
        → ((ks : List K) → length (f ks) ≡ length ks) → ((ks : List K) → length ks ≡ m → g (f ks) ≡ ks) → on_blocks F m f bs ≡ cs → on_blocks F m g cs ≡ bs
    undone m f g bs cs l h keeps back e =
        let ks = blocks F m bs in
        ap (on_blocks F m g) (sym e) ∙ ap (λ z. flat F (g z)) (blocks_flat F law (f ks) m (keeps ks ∙ blocks_length F m bs))
        ∙ ap (flat F) (back ks (blocks_length F m bs)) ∙ flat_blocks F law m bs l h

    pub length_on : (m : ℕ) (f : List K → List K) (bs cs : List ℕ) → length bs ≡ m * size → ((ks : List K) → length (f ks) ≡ length ks) → on_blocks F m f bs ≡ cs → length cs ≡ length bs
    length_on m f bs cs l keeps e =
        ap length (sym e) ∙ flat_length _ ∙ ap (λ n. n * size) (keeps (blocks F m bs) ∙ blocks_length F m bs) ∙ sym l

    pub there : (T bs cs : List ℕ) → Bytes bs → sealing F c T bs ≡ Ok cs → unsealing F c T cs ≡ Ok bs
    there T bs cs h e =
        let len : ℕ = length bs in
        let m : ℕ = len / size in
        let s : Terms K = begun F c (F.block T) m in
        let o : Option K = inverse (E (F.block T)) in
        let a = accepted (length T) len o (λ L. on_blocks F m (sealed F c s) bs) cs e in
        let w = whole_is len a.whole in
        let lc = length_on m (sealed F c s) bs cs w (length_sealed law c s) a.gives in
        ap (λ n. checked F (length T) n o (λ L. on_blocks F (n / size) (unsealed F c (begun F c (F.block T) (n / size)) L) cs)) lc
        ∙ a.all (λ L. on_blocks F m (unsealed F c s L) cs)
        ∙ ap Ok (undone m (sealed F c s) (unsealed F c s a.L) bs cs w h (length_sealed law c s)
        (λ ks l. unsealed_sealed s a.L (ready_by m s.r a.L a.ready) ks l) a.gives)

    pub back : (T bs cs : List ℕ) → Bytes cs → unsealing F c T cs ≡ Ok bs → sealing F c T bs ≡ Ok cs
    back T bs cs h e =
        let len : ℕ = length cs in
        let m : ℕ = len / size in
        let s : Terms K = begun F c (F.block T) m in
        let o : Option K = inverse (E (F.block T)) in
        let a = accepted (length T) len o (λ L. on_blocks F m (unsealed F c s L) cs) bs e in
        let w = whole_is len a.whole in
        let lb = length_on m (unsealed F c s a.L) cs bs w (length_unsealed law c s a.L) a.gives in
        ap (λ n. checked F (length T) n o (λ L. on_blocks F (n / size) (sealed F c (begun F c (F.block T) (n / size))) bs)) lb
        ∙ a.all (λ L. on_blocks F m (sealed F c s) bs)
        ∙ ap Ok (undone m (unsealed F c s a.L) (sealed F c s) cs bs w h (length_unsealed law c s a.L)
        (λ ks l. sealed_unsealed s a.L (ready_by m s.r a.L a.ready) ks l) a.gives)

    -- the tests of a call with a tweak of one block on m blocks, m being 1 or 2 to 64
    at : {A : Type 0} (b₁ b₂ b₃ b₄ b₅ e₅ : Bool) (o : Option K) (f : K → A) → b₁ ≡ true → b₂ ≡ false → b₃ ≡ true → b₄ ≡ true → b₅ ≡ e₅
        → nest b₁ b₂ b₃ b₄ b₅ o f ≡ cond e₅ (Ok (f zero)) (with_inverse F o f)
    at b₁ b₂ b₃ b₄ b₅ e₅ o f e₁ e₂ e₃ e₄ e = rw (e₁, e₂, e₃, e₄, e)

    checked_by : {A : Type 0} (t len m : ℕ) (one : Bool) (o : Option K) (f : K → A) → t ≡ size → len ≡ m * size → 1 ≤ m → m ≤ 64 → leb m 1 ≡ one
        → checked F t len o f ≡ cond one (Ok (f zero)) (with_inverse F o f)
    checked_by t len m one o f et el lo hi b =
        let h : 0 < size = size_pos size law.sizes in
        let q : len / size ≡ m = ap (λ n. n / size) el ∙ mul-div_cancel m h in
        let r : len % size ≡ 0 = ap (λ n. n % size) el ∙ mul-mod_left m size in
        let k : 1 * size ≤ m * size = mul-le-mul_right size lo in
        let n : len ≢ 0 = λ z. let w : 1 * size ≤ 0 = omega arith in absurd (omega arith) in
        at _ _ _ _ _ one o f (eq-eqb t size et) (ne_eqb len 0 n) (eq-eqb (len % size) 0 r) (le-leb (len / size) 64 (omega arith)) (ap (λ n. leb n 1) q ∙ b)

    -- with a tweak of one block and two to 64 blocks, all hangs on the inverse
    pub checked_at : {A : Type 0} (t len m : ℕ) (o : Option K) (f : K → A) → t ≡ size → len ≡ m * size → 2 ≤ m → m ≤ 64 → checked F t len o f ≡ with_inverse F o f
    checked_at t len m o f et el lo hi = checked_by t len m false o f et el (omega arith) hi (lt-leb m 1 (omega arith))

    dead : (T : List ℕ) → Bytes T → length T ≡ size → (inverse (E (F.block T)) ≡ None) ↔ (T ≡ F.bytes (D zero))
    dead T h l = (
      λ e. sym (law.bytes_block T l h) ∙ ap F.bytes (sym (inv.DE (F.block T)) ∙ ap D (law.inverse_none (E (F.block T)) e)),
      λ e. ap (λ t. inverse (E (F.block t))) e ∙ ap (λ b. inverse (E b)) (law.block_bytes (D zero)) ∙ ap inverse (inv.ED zero) ∙ law.inverse_zero,
    )

    -- where nothing is refused: what the call gives, with the L that it used
    alive : (f : K → List ℕ) (R : K) (o : Option K) → inverse R ≡ o → (R ≡ zero → ⊥) → (L : K) × (with_inverse F (inverse R) f ≡ Ok (f L))
    alive f R None e h = absurd (h (law.inverse_none R e))
    alive f R (Some L) e h = (L, ap (λ z. with_inverse F z f) e)

    one_or_more : (m : ℕ) → 1 ≤ m → (m ≡ 1) ⊎ (2 ≤ m)
    one_or_more ℕ.zero h = absurd (omega arith)
    one_or_more (suc ℕ.zero) h = inl refl
    one_or_more (suc (suc m)) h = inr (omega arith)

    given : (T bs : List ℕ) (m : ℕ) (f : K → List ℕ) → Tweak F T → Buffer F m bs → (m ≡ 1) ⊎ (Dead F c T → ⊥) → (m ≡ 1) ⊎ (2 ≤ m)
        → (L : K) × (checked F (length T) (length bs) (inverse (E (F.block T))) f ≡ Ok (f L))
    given T bs m f t b w (inl e) =
        (zero, checked_by (length T) (length bs) m true (inverse (E (F.block T))) f t.long b.long b.some b.few (le-leb m 1 (omega arith)))
    given T bs m f t b (inl e) (inr more) = absurd (omega arith)
    given T bs m f t b (inr h) (inr more) =
        let a = alive f (E (F.block T)) (inverse (E (F.block T))) refl h in
        (a.0, checked_at (length T) (length bs) m (inverse (E (F.block T))) f t.long b.long more b.few ∙ a.1)

    -- a changed buffer is a buffer
    made : (m : ℕ) (f : List K → List K) (bs : List ℕ) → Buffer F m bs → ((ks : List K) → length (f ks) ≡ length ks) → Buffer F m (on_blocks F (length bs / size) f bs)
    made m f bs b keeps =
        let q : length bs / size ≡ m = ap (λ n. n / size) b.long ∙ mul-div_cancel m (size_pos size law.sizes) in
        let l : length bs ≡ length bs / size * size = b.long ∙ ap (λ n. n * size) (sym q) in
        record {
          long = length_on (length bs / size) f bs _ l keeps refl ∙ b.long;
          bytes = flat_bytes (f (blocks F (length bs / size) bs));
          some = b.some;
          few = b.few;
        }

    sealing_accepts : (T bs : List ℕ) (m : ℕ) → Tweak F T → Buffer F m bs → (m ≡ 1) ⊎ (Dead F c T → ⊥) → Accepts F m (sealing F c T bs)
    sealing_accepts T bs m t b w =
        let s : Terms K = begun F c (F.block T) (length bs / size) in
        let a = given T bs m (λ L. on_blocks F (length bs / size) (sealed F c s) bs) t b w (one_or_more m b.some) in
        record { new = on_blocks F (length bs / size) (sealed F c s) bs; accepted = a.1; buffer = made m (sealed F c s) bs b (length_sealed law c s) }

    unsealing_accepts : (T bs : List ℕ) (m : ℕ) → Tweak F T → Buffer F m bs → (m ≡ 1) ⊎ (Dead F c T → ⊥) → Accepts F m (unsealing F c T bs)
    unsealing_accepts T bs m t b w =
        let s : Terms K = begun F c (F.block T) (length bs / size) in
        let a = given T bs m (λ L. on_blocks F (length bs / size) (unsealed F c s L) bs) t b w (one_or_more m b.some) in
        record { new = on_blocks F (length bs / size) (unsealed F c s a.0) bs; accepted = a.1; buffer = made m (unsealed F c s a.0) bs b (length_unsealed law c s a.0) }

    pub there_and_back : ThereAndBack F c
    there_and_back = record {
      unsealing_sealed = λ T bs m t b w. let a = sealing_accepts T bs m t b w in (a, there T bs a.new b.bytes a.accepted);
      sealing_unsealed = λ T bs m t b w. let a = unsealing_accepts T bs m t b w in (a, back T a.new bs b.bytes a.accepted);
    }

    refused : (T bs : List ℕ) (m : ℕ) (f : K → List ℕ) → Tweak F T → Buffer F m bs → 2 ≤ m → T ≡ F.bytes (D zero)
        → checked F (length T) (length bs) (inverse (E (F.block T))) f ≡ Err dead_tweak
    refused T bs m f t b more e =
        checked_at (length T) (length bs) m (inverse (E (F.block T))) f t.long b.long more b.few ∙ ap (λ o. with_inverse F o f) ((dead T t.bytes t.long).1 e)

    -- any other tweak is not dead
    lives : (T : List ℕ) → Tweak F T → (T ≡ F.bytes (D zero) → ⊥) → Dead F c T → ⊥
    lives T t h d = h ((dead T t.bytes t.long).0 (ap inverse d ∙ law.inverse_zero))

    pub one_dead_tweak : OneDeadTweak F c
    one_dead_tweak = record {
      tweak = F.bytes (D zero);
      is_tweak = record { long = law.bytes_length (D zero); bytes = law.bytes_bytes (D zero) };
      dead = ap E (law.block_bytes (D zero)) ∙ inv.ED zero;
      sealing_refuses = λ T bs m t b more. (
        refused T bs m (λ L. on_blocks F (length bs / size) (sealed F c (begun F c (F.block T) (length bs / size))) bs) t b more,
        λ h. sealing_accepts T bs m t b (inr (lives T t h)),
      );
      unsealing_refuses = λ T bs m t b more. (
        refused T bs m (λ L. on_blocks F (length bs / size) (unsealed F c (begun F c (F.block T) (length bs / size)) L) bs) t b more,
        λ h. unsealing_accepts T bs m t b (inr (lives T t h)),
      );
    }

    pub promises : Promises F c
    promises = record {
      there_and_back = there_and_back;
      one_dead_tweak = one_dead_tweak;
      coefficients = record {
        one_each = λ m lo hi. length_coefficients law m lo;
        add_to_zero = λ m lo hi. sum_coefficients law m;
        no_two_equal = λ m lo hi. law.masks m lo hi;
      };
    }

-- what every cipher's laws promise of the mode
pub promised : {C K : Type 0} {F : Ops K} (law : Laws F) (enc dec : C → K → K) → ((c : C) (b : K) → dec c (enc c b) ≡ b) → ((c : C) (b : K) → enc c (dec c b) ≡ b)
    → (c : C) → Promised F (maps enc dec c)
unfolding Promised
promised law enc dec back forth c = promises law (maps enc dec c) (record { DE = back c; ED = forth c })
