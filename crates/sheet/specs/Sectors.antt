-- How the text of a sector is sealed: the sector's tweak, and what a cipher makes of the text under it.
use Rattle.std.specs.Prelude.{◌≡◌, ℕ, ◌<◌, Bool, List}
use Rattle.kind.specs.Laws.{Ops, bin}
use Rattle.sealing.specs.Texts.{Text, text_sealing}

-- the tweak of sector s on a card: card number ⊕ bin(s)
abbrev pub sector_tweak : {K : Type 0} → Ops K → List ℕ → ℕ → K
sector_tweak F number s = F.add (F.block number) (bin F s)

-- the sealing of sectors by ciphers of the type C: cipher, card number, sector and text say all
pub record Sectors (C : Type 0) : Type 0 where
  -- the bytes of a block, and so of a card number
  pub width : ℕ
  -- whether the sector's tweak is dead under the cipher: it is enciphered to zero, so that nothing can be sealed under it
  pub dead : C → List ℕ → ℕ → Bool
  pub sealed : C → List ℕ → ℕ → List ℕ → List ℕ
  pub unsealed : C → List ℕ → ℕ → List ℕ → List ℕ

-- each cipher's own sealing of texts, under the sector's tweak
module _ {C K : Type 0} (F : Ops K) (enc dec : C → K → K) where
  unfoldable pub sector_dead : C → List ℕ → ℕ → Bool
  sector_dead c number s = (text_sealing F enc dec).dead c (F.bytes (sector_tweak F number s))

  unfoldable pub sector_sealed : C → List ℕ → ℕ → List ℕ → List ℕ
  sector_sealed c number s t = (text_sealing F enc dec).sealed c (F.bytes (sector_tweak F number s)) t

  unfoldable pub sector_unsealed : C → List ℕ → ℕ → List ℕ → List ℕ
  sector_unsealed c number s t = (text_sealing F enc dec).unsealed c (F.bytes (sector_tweak F number s)) t

  abbrev pub sectors : Sectors C
  sectors = record { width = F.size; dead = sector_dead; sealed = sector_sealed; unsealed = sector_unsealed }

-- what the promise needs of a sealing of sectors: texts stay texts, and each direction undoes the other
pub record LawfulSectors {C : Type 0} (S : Sectors C) : Type 0 where
  pub narrow : S.width < 256
  pub sealed_text : (c : C) (number : List ℕ) (s : ℕ) (t : List ℕ) → Text t → Text (S.sealed c number s t)
  pub unsealed_text : (c : C) (number : List ℕ) (s : ℕ) (t : List ℕ) → Text t → Text (S.unsealed c number s t)
  pub back : (c : C) (number : List ℕ) (s : ℕ) (t : List ℕ) → Text t → S.unsealed c number s (S.sealed c number s t) ≡ t
  pub forth : (c : C) (number : List ℕ) (s : ℕ) (t : List ℕ) → Text t → S.sealed c number s (S.unsealed c number s t) ≡ t
