-- Every cipher of every kind seals sectors lawfully: the one place where cards meet the sealing mode.
use Rattle.std.proofs.Common.{◌≡◌, ℕ, List, ap}
use Rattle.kind.specs.Laws.{Ops, Laws}
use Rattle.sealing.specs.Texts.{Lawful, text_sealing}
use Rattle.sealing.proofs.Lawfuls.{lawful}
use Rattle.sheet.specs.Sectors.{sectors, LawfulSectors, sector_tweak, sector_dead, sector_sealed, sector_unsealed}

-- the sealing of a sector is that under its tweak
module _ {C K : Type 0} (F : Ops K) (enc dec : C → K → K) (c : C) (number : List ℕ) (s : ℕ) (t : K) (e : t ≡ sector_tweak F number s) where
  pub sector_dead_is : (text_sealing F enc dec).dead c (F.bytes t) ≡ (sectors F enc dec).dead c number s
  unfolding sector_dead
  sector_dead_is = ap (λ (b : K). (text_sealing F enc dec).dead c (F.bytes b)) e

  pub sector_sealed_is : (x : List ℕ) → (text_sealing F enc dec).sealed c (F.bytes t) x ≡ (sectors F enc dec).sealed c number s x
  unfolding sector_sealed
  sector_sealed_is x = ap (λ (b : K). (text_sealing F enc dec).sealed c (F.bytes b) x) e

  pub sector_unsealed_is : (x : List ℕ) → (text_sealing F enc dec).unsealed c (F.bytes t) x ≡ (sectors F enc dec).unsealed c number s x
  unfolding sector_unsealed
  sector_unsealed_is x = ap (λ (b : K). (text_sealing F enc dec).unsealed c (F.bytes b) x) e

module _ {K : Type 0} {F : Ops K} (law : Laws F) {C : Type 0} (enc dec : C → K → K) where
  module _ (back : (c : C) (b : K) → dec c (enc c b) ≡ b) (forth : (c : C) (b : K) → enc c (dec c b) ≡ b) where
    texts : Lawful (text_sealing F enc dec)
    texts = lawful law enc dec (λ c. record { DE = back c; ED = forth c })

    pub lawful_sectors : LawfulSectors (sectors F enc dec)
    unfolding sector_sealed sector_unsealed
    lawful_sectors = record {
      narrow = texts.narrow;
      sealed_text = λ c number s t h. texts.sealed_text c (F.bytes (sector_tweak F number s)) t h;
      unsealed_text = λ c number s t h. texts.unsealed_text c (F.bytes (sector_tweak F number s)) t h;
      back = λ c number s t h. texts.back c (F.bytes (sector_tweak F number s)) t h;
      forth = λ c number s t h. texts.forth c (F.bytes (sector_tweak F number s)) t h;
    }
