-- The sealing mode, PEP, over any block kind and any cipher: the rules on blocks, sealing and unsealing of bytes with their refusals, and what is
-- promised of them. The blocks of a text are P₁ to Pₘ, the sealed ones C₁ to Cₘ; T is the tweak, one block.
use Rattle.std.specs.Prelude.{◌≡◌, ℕ, ◌*◌, ◌/◌, ◌%◌, ◌≤◌, Bool, cond, ◌⊎◌, List, [], ◌∷◌, length, Some, None, Ok, Err, Option, Result, ◌==◌, ◌≢◌, nat_le, slice_index_or}
use Rattle.field.specs.Mask.{Apart}
use Rattle.kind.specs.Laws.{Ops, Bytes, bin, mask_coefficients, most_blocks}
use Rattle.fault.specs.declared.SealFault.{SealFault}
use Rattle.fault.specs.declared.SealFault.TheVariants.{TweakLength, NotWholeBlocks, TooManyBlocks}
use Rattle.fault.specs.Faults.{dead_tweak}
use Rattle.passes.specs.declared.terms.Terms.{Terms}
use Rattle.passes.specs.Rows.{pow, sum, each, on_blocks}

-- the two maps of a cipher, and that each undoes the other
pub record Maps (K : Type 0) : Type 0 where
  pub E : K → K
  pub D : K → K

pub record Inverse {K : Type 0} (c : Maps K) : Type 0 where
  pub DE : (b : K) → c.D (c.E b) ≡ b
  pub ED : (b : K) → c.E (c.D b) ≡ b

-- the maps of one cipher of a type
abbrev pub maps : {C K : Type 0} → (C → K → K) → (C → K → K) → C → Maps K
maps enc dec c = record { E = enc c; D = dec c }

-- what a call that changes a buffer answers, and what it leaves there: a refusal changes nothing
abbrev pub answer : {A B : Type 0} → Result A B → Result (Unit {0}) B
answer (Ok new) = Ok tt
answer (Err e) = Err e

abbrev pub left : {A B : Type 0} → Result A B → A → A
left (Ok new) old = new
left (Err e) old = old

module _ {K : Type 0} (F : Ops K) (c : Maps K) where
  open F use {add as ◌⊕◌, mul as ◌·◌, x, zero}
  open c use {E, D}

  infixl 60 ◌⊕◌
  infixl 70 ◌·◌
  -- R, EN and EEN for m blocks under the tweak T
  abbrev pub begun : K → ℕ → Terms K
  begun T m =
      let R : K = E T in
      let EN : K = E (R ⊕ bin F m) in
      let EEN : K = E (x · EN) in
      record { r = R; en = EN; een = EEN; m = m }

  -- The rules, with R, EN, EEN and m at hand. The mask coefficients are p₁ to pₘ; `p i` and `pow F R i` count the places i from 0.
  module _ (s : Terms K) where
    open s use {r as R, en as EN, een as EEN, m}

    abbrev pub p : ℕ → K
    p i = slice_index_or (mask_coefficients F m) i zero

    -- sealing
    unfoldable pub sealed : List K → List K
    sealed [] = []
    sealed (P₁ ∷ []) = (E (P₁ ⊕ EN) ⊕ x · EEN) ∷ []
    sealed (P₁ ∷ P₂ ∷ []) =
        let PP₁ : K = P₁ in
        let PP₂ : K = R · P₂ in
        let M1 : K = E (PP₁ ⊕ PP₂ ⊕ EN) in
        let CCC₁ : K = E (PP₁ ⊕ M1 ⊕ EN) in
        let CCC₂ : K = E (PP₂ ⊕ M1 ⊕ EEN) in
        let M2 : K = E (CCC₁ ⊕ CCC₂ ⊕ EN) in
        let C₁ : K = CCC₁ ⊕ M2 ⊕ EN in
        let C₂ : K = R · (CCC₂ ⊕ M2 ⊕ EEN) in
        C₁ ∷ C₂ ∷ []
    sealed (P₁ ∷ P₂ ∷ P₃ ∷ rest) =
        let PP : List K = each (λ i Pᵢ. pow F R i · Pᵢ) 0 (P₁ ∷ P₂ ∷ P₃ ∷ rest) in
        let M1 : K = E (sum F PP ⊕ EN) in
        let CCC : List K = each (λ i PPᵢ. E (PPᵢ ⊕ p i · M1)) 0 PP in
        let M2 : K = E (sum F CCC ⊕ EEN) in
        each (λ i CCCᵢ. pow F R i · (CCCᵢ ⊕ p i · M2)) 0 CCC

    -- Unsealing, with L the inverse of R, which one block has no use for. At two blocks both sums end in EEN: there the masks do not add to zero.
    unfoldable pub unsealed : K → List K → List K
    unsealed L [] = []
    unsealed L (C₁ ∷ []) = (D (C₁ ⊕ x · EEN) ⊕ EN) ∷ []
    unsealed L (C₁ ∷ C₂ ∷ []) =
        let CC₁ : K = C₁ in
        let CC₂ : K = L · C₂ in
        let M2 : K = E (CC₁ ⊕ CC₂ ⊕ EEN) in
        let PPP₁ : K = D (CC₁ ⊕ M2 ⊕ EN) in
        let PPP₂ : K = D (CC₂ ⊕ M2 ⊕ EEN) in
        let M1 : K = E (PPP₁ ⊕ PPP₂ ⊕ EEN) in
        let P₁ : K = PPP₁ ⊕ M1 ⊕ EN in
        let P₂ : K = L · (PPP₂ ⊕ M1 ⊕ EEN) in
        P₁ ∷ P₂ ∷ []
    unsealed L (C₁ ∷ C₂ ∷ C₃ ∷ rest) =
        let CC : List K = each (λ i Cᵢ. pow F L i · Cᵢ) 0 (C₁ ∷ C₂ ∷ C₃ ∷ rest) in
        let M2 : K = E (sum F CC ⊕ EEN) in
        let PPP : List K = each (λ i CCᵢ. D (CCᵢ ⊕ p i · M2)) 0 CC in
        let M1 : K = E (sum F PPP ⊕ EN) in
        each (λ i PPPᵢ. pow F L i · (PPPᵢ ⊕ p i · M1)) 0 PPP

    -- The same sealing in three passes, each over the blocks that it finds: the PPᵢ from the text, the CCCᵢ from the PPᵢ, the Cᵢ from the CCCᵢ.
    unfoldable pub first_pass : List K → List K
    first_pass [] = []
    first_pass (P₁ ∷ []) = P₁ ∷ []
    first_pass (P₁ ∷ P₂ ∷ []) = P₁ ∷ R · P₂ ∷ []
    first_pass (P₁ ∷ P₂ ∷ P₃ ∷ rest) = each (λ i Pᵢ. pow F R i · Pᵢ) 0 (P₁ ∷ P₂ ∷ P₃ ∷ rest)

    unfoldable pub second_pass : List K → List K
    second_pass [] = []
    second_pass (P₁ ∷ []) = E (P₁ ⊕ EN) ∷ []
    second_pass (PP₁ ∷ PP₂ ∷ []) =
        let M1 : K = E (PP₁ ⊕ PP₂ ⊕ EN) in
        E (PP₁ ⊕ M1 ⊕ EN) ∷ E (PP₂ ⊕ M1 ⊕ EEN) ∷ []
    second_pass (PP₁ ∷ PP₂ ∷ PP₃ ∷ rest) =
        let PP : List K = PP₁ ∷ PP₂ ∷ PP₃ ∷ rest in
        let M1 : K = E (sum F PP ⊕ EN) in
        each (λ i PPᵢ. E (PPᵢ ⊕ p i · M1)) 0 PP

    unfoldable pub third_pass : List K → List K
    third_pass [] = []
    third_pass (CCC₁ ∷ []) = (CCC₁ ⊕ x · EEN) ∷ []
    third_pass (CCC₁ ∷ CCC₂ ∷ []) =
        let M2 : K = E (CCC₁ ⊕ CCC₂ ⊕ EN) in
        (CCC₁ ⊕ M2 ⊕ EN) ∷ R · (CCC₂ ⊕ M2 ⊕ EEN) ∷ []
    third_pass (CCC₁ ∷ CCC₂ ∷ CCC₃ ∷ rest) =
        let CCC : List K = CCC₁ ∷ CCC₂ ∷ CCC₃ ∷ rest in
        let M2 : K = E (sum F CCC ⊕ EEN) in
        each (λ i CCCᵢ. pow F R i · (CCCᵢ ⊕ p i · M2)) 0 CCC

-- the refusals of a call: e where b is true, or where it is not, and else what comes after
abbrev pub refuse_if : {A : Type 0} → Bool → SealFault → Result A SealFault → Result A SealFault
refuse_if b e rest = cond b (Err e) rest

abbrev pub refuse_unless : {A : Type 0} → Bool → SealFault → Result A SealFault → Result A SealFault
refuse_unless b e rest = cond b rest (Err e)

module _ {K : Type 0} (F : Ops K) where
  open F use {size, zero, inverse, block}

  abbrev pub with_inverse : {A : Type 0} → Option K → (K → A) → Result A SealFault
  with_inverse None f = Err dead_tweak
  with_inverse (Some L) f = Ok (f L)

  -- The refusals, in their order, of a call with a tweak of t bytes on a buffer of len bytes, and else what f gives from the inverse of R; none is
  -- looked for at one block.
  abbrev pub checked : {A : Type 0} → ℕ → ℕ → Option K → (K → A) → Result A SealFault
  checked t len inverse_of_R f =
      refuse_unless (t == size) TweakLength
      (refuse_if (len == 0) NotWholeBlocks
      (refuse_unless (len % size == 0) NotWholeBlocks
      (refuse_unless (nat_le (len / size) most_blocks) TooManyBlocks
      (cond (nat_le (len / size) 1) (Ok (f zero)) (with_inverse inverse_of_R f)))))

  module _ (c : Maps K) where
    open c use {E, D}

    -- what a sealing of len bytes begins with: the terms, and the inverse of R
    abbrev pub prepared : List ℕ → ℕ → Result (Terms K × K) SealFault
    prepared T len = checked (length T) len (inverse (E (block T))) (λ L. (begun F c (block T) (len / size), L))

    -- the sealing of the text bs under the tweak T, both as bytes
    abbrev pub sealing : List ℕ → List ℕ → Result (List ℕ) SealFault
    sealing T bs =
        let m : ℕ = length bs / size in
        checked (length T) (length bs) (inverse (E (block T))) (λ L. on_blocks F m (sealed F c (begun F c (block T) m)) bs)

    abbrev pub unsealing : List ℕ → List ℕ → Result (List ℕ) SealFault
    unsealing T bs =
        let m : ℕ = length bs / size in
        checked (length T) (length bs) (inverse (E (block T))) (λ L. on_blocks F m (unsealed F c (begun F c (block T) m) L) bs)

  -- a tweak, and a buffer of m whole blocks, 1 to 64
  pub record Tweak (T : List ℕ) : Type 0 where
    pub long : length T ≡ size
    pub bytes : Bytes T

  pub record Buffer (m : ℕ) (bs : List ℕ) : Type 0 where
    pub long : length bs ≡ m * size
    pub bytes : Bytes bs
    pub some : 1 ≤ m
    pub few : m ≤ most_blocks

  -- What a call accepts: it makes of the buffer another of as many blocks.
  pub record Accepts (m : ℕ) (outcome : Result (List ℕ) SealFault) : Type 0 where
    pub new : List ℕ
    pub accepted : outcome ≡ Ok new
    pub buffer : Buffer m new

  module _ (c : Maps K) where
    open c use {E, D}

    -- a tweak is dead when R is zero
    abbrev pub Dead : List ℕ → Type 0
    Dead T = E (block T) ≡ zero

    -- `back` undoes `call`: every buffer of 1 to 64 whole blocks, at one block under every tweak, from two up under every tweak that is not dead, is
    -- accepted by the one, and what it becomes is accepted by the other, which gives it back.
    abbrev pub UndoneBy : (call back : List ℕ → List ℕ → Result (List ℕ) SealFault) → Type 0
    UndoneBy call back =
        (T bs : List ℕ) (m : ℕ) → Tweak T → Buffer m bs → (m ≡ 1) ⊎ (Dead T → ⊥)
        → (made : Accepts m (call T bs)) × (back T made.new ≡ Ok bs)

    -- there and back, in both directions
    pub record ThereAndBack : Type 0 where
      pub unsealing_sealed : UndoneBy (sealing c) (unsealing c)
      pub sealing_unsealed : UndoneBy (unsealing c) (sealing c)

    -- the tweak t, and no other, is refused by a call on two blocks and more, as a dead tweak; under every other tweak the call accepts
    abbrev pub RefusedAlone : (call : List ℕ → List ℕ → Result (List ℕ) SealFault) → List ℕ → Type 0
    RefusedAlone call t =
        (T bs : List ℕ) (m : ℕ) → Tweak T → Buffer m bs → 2 ≤ m
        → (T ≡ t → call T bs ≡ Err dead_tweak) × ((T ≢ t) → Accepts m (call T bs))

    -- exactly one tweak is dead, the same at every count from two to 64 blocks, for sealing and for unsealing; and no other refusal comes there
    pub record OneDeadTweak : Type 0 where
      pub tweak : List ℕ
      pub is_tweak : Tweak tweak
      pub dead : Dead tweak
      pub sealing_refuses : RefusedAlone (sealing c) tweak
      pub unsealing_refuses : RefusedAlone (unsealing c) tweak

  -- the mask coefficients of 3 to 64 blocks: one for each block, they add to zero, and no two are equal
  pub record Coefficients : Type 0 where
    pub one_each : (m : ℕ) → 3 ≤ m → m ≤ most_blocks → length (mask_coefficients F m) ≡ m
    pub add_to_zero : (m : ℕ) → 3 ≤ m → m ≤ most_blocks → sum F (mask_coefficients F m) ≡ zero
    pub no_two_equal : (m : ℕ) → 3 ≤ m → m ≤ most_blocks → Apart (mask_coefficients F m)

  -- what is promised of the mode with one cipher
  pub record Promises (c : Maps K) : Type 0 where
    pub there_and_back : ThereAndBack c
    pub one_dead_tweak : OneDeadTweak c
    pub coefficients : Coefficients

  -- The same, shut, as the contracts have it: a caller's proof that has no use for the promises passes them by.
  unfoldable pub Promised : Maps K → Type 0
  Promised c = Promises c

-- a beginning accepted: the bytes are as many blocks as the terms say
abbrev pub Whole : {K A : Type 0} → Ops K → ℕ → Result (Terms K × A) SealFault → Type 0
Whole F len (Ok begins) = len ≡ begins.0.m * F.size
Whole F len (Err e) = Unit {0}
