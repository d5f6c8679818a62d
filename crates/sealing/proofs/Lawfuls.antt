-- Every cipher of every kind seals texts lawfully.
use Rattle.std.proofs.Common.{◌≡◌, ℕ, ◌*◌, ◌/◌, ◌<◌, ◌≤◌, true, false, List, length, Some, None, Ok, Err, Option, Result, sym, refl, ap, ◌∙◌, subst, inl, inr, arith}
use Rattle.field.specs.Bytes.{Size}
use Rattle.kind.specs.Laws.{Ops, Laws, Bytes}
use Rattle.kind.specs.Blocks.{blocks}
use Rattle.fault.specs.declared.SealFault.{SealFault}
use Rattle.fault.specs.Faults.{dead_tweak}
use Rattle.sealing.specs.Mode.{Maps, Inverse, maps, sealed, unsealed, begun, sealing, unsealing, checked, answer, left}
use Rattle.passes.specs.Rows.{on_blocks}
use Rattle.sealing.specs.Texts.{Text, Lawful, is_none, text_sealing, Decided}
use Rattle.sealing.proofs.Checks.{map_ok, checked_map}
use Rattle.sealing.proofs.Agree.{length_sealed, length_unsealed}
use Rattle.sealing.proofs.Trips.{accepted, whole_is, length_on, flat_bytes, there, back, checked_at}

narrow_by : (n : ℕ) → Size n → n < 256
narrow_by n (inl e) = omega arith
narrow_by n (inr (inl e)) = omega arith
narrow_by n (inr (inr (inl e))) = omega arith
narrow_by n (inr (inr (inr (inl e)))) = omega arith
narrow_by n (inr (inr (inr (inr e)))) = omega arith

-- how many blocks a text is
record Count (n : ℕ) : Type 0 where
  m : ℕ
  full : 512 ≡ m * n
  more : 2 ≤ m
  few : m ≤ 64

count : (n : ℕ) → Size n → Count n
count n (inl e) = record { m = 64; full = omega arith; more = omega arith; few = omega arith }
count n (inr (inl e)) = record { m = 32; full = omega arith; more = omega arith; few = omega arith }
count n (inr (inr (inl e))) = record { m = 16; full = omega arith; more = omega arith; few = omega arith }
count n (inr (inr (inr (inl e)))) = record { m = 8; full = omega arith; more = omega arith; few = omega arith }
count n (inr (inr (inr (inr e)))) = record { m = 4; full = omega arith; more = omega arith; few = omega arith }

left_text : (r : Result (List ℕ) SealFault) (t : List ℕ) → Text t → ((a : List ℕ) → r ≡ Ok a → Text a) → Text (left r t)
left_text (Ok a) t h k = k a refl
left_text (Err e) t h k = h

was_err : {A B : Type 0} (h : A → B) (q : Result A SealFault) (e : SealFault) → map_ok h q ≡ Err e → q ≡ Err e
was_err h (Ok a) e p = let z : ◌≡◌ {A = ℕ} 0 1 = cc in absurd (omega arith)
was_err h (Err f) e p = cc

module _ {K : Type 0} {F : Ops K} (law : Laws F) where
  module _ (c : Maps K) (inv : Inverse c) where
    sealed_is : (w t a : List ℕ) → Text t → sealing F c w t ≡ Ok a → Text a
    sealed_is w t a h e =
        let m : ℕ = length t / F.size in
        let s = begun F c (F.block w) m in
        let p = accepted law (length w) (length t) (F.inverse (c.E (F.block w))) (λ L. on_blocks F m (sealed F c s) t) a e in
        record {
          long = length_on law c inv m (sealed F c s) t a (whole_is law (length t) p.whole) (length_sealed law c s) p.gives ∙ h.long;
          bytes = subst Bytes p.gives (flat_bytes law (sealed F c s (blocks F m t)));
        }

    unsealed_is : (w t a : List ℕ) → Text t → unsealing F c w t ≡ Ok a → Text a
    unsealed_is w t a h e =
        let m : ℕ = length t / F.size in
        let s = begun F c (F.block w) m in
        let p = accepted law (length w) (length t) (F.inverse (c.E (F.block w))) (λ L. on_blocks F m (unsealed F c s L) t) a e in
        record {
          long = length_on law c inv m (unsealed F c s p.L) t a (whole_is law (length t) p.whole) (length_unsealed law c s p.L) p.gives ∙ h.long;
          bytes = subst Bytes p.gives (flat_bytes law (unsealed F c s p.L (blocks F m t)));
        }

    -- both calls refuse alike
    alike : (w t : List ℕ) (f g : K → List ℕ) (e : SealFault) → checked F (length w) (length t) (F.inverse (c.E (F.block w))) f ≡ Err e → checked F (length w) (length t) (F.inverse (c.E (F.block w))) g ≡ Err e
    alike w t f g e p =
        let o : Option K = F.inverse (c.E (F.block w)) in
        checked_map F g (length w) (length t) o (λ L. L) ∙ ap (map_ok g) (was_err f _ e (sym (checked_map F f (length w) (length t) o (λ L. L)) ∙ p))

    back_by : (w t : List ℕ) → Text t → (r : Result (List ℕ) SealFault) → sealing F c w t ≡ r → left (unsealing F c w (left r t)) (left r t) ≡ t
    back_by w t h (Ok a) e = ap (λ q. left q a) (there law c inv w t a h.bytes e)
    back_by w t h (Err f) e = ap (λ q. left q t) (alike w t (λ L. on_blocks F (length t / F.size) (sealed F c (begun F c (F.block w) (length t / F.size))) t) (λ L. on_blocks F (length t / F.size) (unsealed F c (begun F c (F.block w) (length t / F.size)) L) t) f e)

    forth_by : (w t : List ℕ) → Text t → (r : Result (List ℕ) SealFault) → unsealing F c w t ≡ r → left (sealing F c w (left r t)) (left r t) ≡ t
    forth_by w t h (Ok a) e = ap (λ q. left q a) (back law c inv w a t h.bytes e)
    forth_by w t h (Err f) e = ap (λ q. left q t) (alike w t (λ L. on_blocks F (length t / F.size) (unsealed F c (begun F c (F.block w) (length t / F.size)) L) t) (λ L. on_blocks F (length t / F.size) (sealed F c (begun F c (F.block w) (length t / F.size))) t) f e)

    yes_by : (w t : List ℕ) (f : K → List ℕ) → length w ≡ F.size → Text t → (o : Option K) → is_none o ≡ false → answer (checked F (length w) (length t) o f) ≡ Ok tt
    yes_by w t f l h None d = let z : ◌≡◌ {A = ℕ} 0 1 = cc in absurd (omega arith)
    yes_by w t f l h (Some L) d =
        let k = count F.size law.sizes in
        ap answer (checked_at law c inv (length w) (length t) k.m (Some L) f l (h.long ∙ k.full) k.more k.few)

    no_by : (w t : List ℕ) (f : K → List ℕ) → length w ≡ F.size → Text t → (o : Option K) → is_none o ≡ true → answer (checked F (length w) (length t) o f) ≡ Err dead_tweak
    no_by w t f l h (Some L) d = let z : ◌≡◌ {A = ℕ} 0 1 = cc in absurd (omega arith)
    no_by w t f l h None d =
        let k = count F.size law.sizes in
        ap answer (checked_at law c inv (length w) (length t) k.m None f l (h.long ∙ k.full) k.more k.few)

  module _ {C : Type 0} (enc dec : C → K → K) (inv : (c : C) → Inverse (maps enc dec c)) where
    pub lawful : Lawful (text_sealing F enc dec)
    lawful = record {
      narrow = narrow_by F.size law.sizes;
      sealed_text = λ c w t h. left_text (sealing F (maps enc dec c) w t) t h (λ a e. sealed_is (maps enc dec c) (inv c) w t a h e);
      unsealed_text = λ c w t h. left_text (unsealing F (maps enc dec c) w t) t h (λ a e. unsealed_is (maps enc dec c) (inv c) w t a h e);
      back = λ c w t h. back_by (maps enc dec c) (inv c) w t h (sealing F (maps enc dec c) w t) refl;
      forth = λ c w t h. forth_by (maps enc dec c) (inv c) w t h (unsealing F (maps enc dec c) w t) refl;
    }

    pub decided : Decided F enc dec
    decided = record {
      seals = λ c w t l h d. yes_by (maps enc dec c) (inv c) w t (λ L. on_blocks F (length t / F.size) (sealed F (maps enc dec c) (begun F (maps enc dec c) (F.block w) (length t / F.size))) t) l h _ d;
      unseals = λ c w t l h d. yes_by (maps enc dec c) (inv c) w t (λ L. on_blocks F (length t / F.size) (unsealed F (maps enc dec c) (begun F (maps enc dec c) (F.block w) (length t / F.size)) L) t) l h _ d;
      refuses = λ c w t l h d. no_by (maps enc dec c) (inv c) w t (λ L. on_blocks F (length t / F.size) (sealed F (maps enc dec c) (begun F (maps enc dec c) (F.block w) (length t / F.size))) t) l h _ d;
      unrefuses = λ c w t l h d. no_by (maps enc dec c) (inv c) w t (λ L. on_blocks F (length t / F.size) (unsealed F (maps enc dec c) (begun F (maps enc dec c) (F.block w) (length t / F.size)) L) t) l h _ d;
    }
