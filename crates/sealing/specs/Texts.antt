-- What a card needs of sealing: for each cipher and tweak, two maps on texts of 512 bytes that undo each other, and whether the tweak is dead.
use Rattle.std.specs.Prelude.{◌≡◌, ℕ, ◌<◌, Bool, true, false, List, length, Some, None, Ok, Err, Option}
use Rattle.kind.specs.Laws.{Ops, Bytes}
use Rattle.fault.specs.Faults.{dead_tweak}
use Rattle.sealing.specs.Mode.{maps, sealing, unsealing, answer, left}

-- what a sector holds
pub record Text (xs : List ℕ) : Type 0 where
  pub long : length xs ≡ 512
  pub bytes : Bytes xs

pub record Texts (C : Type 0) : Type 0 where
  pub width : ℕ
  pub dead : C → List ℕ → Bool
  pub sealed : C → List ℕ → List ℕ → List ℕ
  pub unsealed : C → List ℕ → List ℕ → List ℕ

pub record Lawful {C : Type 0} (S : Texts C) : Type 0 where
  pub narrow : S.width < 256
  pub sealed_text : (c : C) (w t : List ℕ) → Text t → Text (S.sealed c w t)
  pub unsealed_text : (c : C) (w t : List ℕ) → Text t → Text (S.unsealed c w t)
  pub back : (c : C) (w t : List ℕ) → Text t → S.unsealed c w (S.sealed c w t) ≡ t
  pub forth : (c : C) (w t : List ℕ) → Text t → S.sealed c w (S.unsealed c w t) ≡ t

abbrev pub is_none : {A : Type 0} → Option A → Bool
is_none None = true
is_none (Some a) = false

module _ {C K : Type 0} (F : Ops K) (enc dec : C → K → K) where
  -- what the calls leave of a text
  abbrev pub text_sealing : Texts C
  text_sealing = record {
    width = F.size;
    dead = λ c w. is_none (F.inverse (enc c (F.block w)));
    sealed = λ c w t. left (sealing F (maps enc dec c) w t) t;
    unsealed = λ c w t. left (unsealing F (maps enc dec c) w t) t;
  }

  -- what the calls answer on a text, under a tweak of one block
  pub record Decided : Type 0 where
    pub seals : (c : C) (w t : List ℕ) → length w ≡ F.size → Text t → text_sealing.dead c w ≡ false → answer (sealing F (maps enc dec c) w t) ≡ Ok tt
    pub unseals : (c : C) (w t : List ℕ) → length w ≡ F.size → Text t → text_sealing.dead c w ≡ false → answer (unsealing F (maps enc dec c) w t) ≡ Ok tt
    pub refuses : (c : C) (w t : List ℕ) → length w ≡ F.size → Text t → text_sealing.dead c w ≡ true → answer (sealing F (maps enc dec c) w t) ≡ Err dead_tweak
    pub unrefuses : (c : C) (w t : List ℕ) → length w ≡ F.size → Text t → text_sealing.dead c w ≡ true → answer (unsealing F (maps enc dec c) w t) ≡ Err dead_tweak
