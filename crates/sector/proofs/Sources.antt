-- What the ring's cipher makes of a sector, and what the record of a sector says to a call that reads it.
use Rattle.std.proofs.Common.{◌≡◌, ℕ, ◌<◌, true, eqb, ltb, List, [], length, get_or, sym, ap, ◌∙◌, arith}
use Rattle.std.proofs.lemmas.Bool.{and_parts, ltb-true}
use Rattle.std.proofs.lemmas.List.{get_or-map}
use Rattle.kind.specs.Laws.{Ops}
use Rattle.layout.specs.Layout.{is_key_mark}
use Rattle.sealing.specs.Texts.{text_sealing}
use Rattle.sheet.specs.Sectors.{sectors, sector_tweak}
use Rattle.sheet.specs.Promise.{sealed_by, unsealed_by, dead_by}
use Rattle.sheet.proofs.Lawful.{sector_dead_is, sector_sealed_is, sector_unsealed_is}

-- a sealed mark names a key on the ring
pub on_ring : (n : ℕ) (r : List ℕ) (k : ℕ) → is_key_mark n r ≡ true → k ≡ get_or r 1 0 → k < n
on_ring n r k m e = omega (arith, ltb-true (get_or r 1 0) n (and_parts (eqb (get_or r 0 0) 75) (ltb (get_or r 1 0) n) m).1, e)

-- the cipher c is the ring's at place k, and t is the tweak of sector s
module _ {C K : Type 0} (F : Ops K) (enc dec : C → K → K) (ring : List C) (k : ℕ) (c : C) (number : List ℕ) (s : ℕ) (t : K) (l : k < length ring) (c-is : c ≡ get_or ring k c) (t-is : t ≡ sector_tweak F number s) where
  pub dead_is : dead_by (sectors F enc dec) ring k number s ≡ (text_sealing F enc dec).dead c (F.bytes t)
  dead_is =
      get_or-map (λ x. (sectors F enc dec).dead x number s) ring k c true l
      ∙ ap (λ (x : C). (sectors F enc dec).dead x number s) (sym c-is)
      ∙ sym (sector_dead_is F enc dec c number s t t-is)

  pub sealed_is : (x : List ℕ) → sealed_by (sectors F enc dec) ring k number s x ≡ (text_sealing F enc dec).sealed c (F.bytes t) x
  sealed_is x =
      get_or-map (λ y. (sectors F enc dec).sealed y number s x) ring k c [] l
      ∙ ap (λ (y : C). (sectors F enc dec).sealed y number s x) (sym c-is)
      ∙ sym (sector_sealed_is F enc dec c number s t t-is x)

  pub unsealed_is : (x : List ℕ) → unsealed_by (sectors F enc dec) ring k number s x ≡ (text_sealing F enc dec).unsealed c (F.bytes t) x
  unsealed_is x =
      get_or-map (λ y. (sectors F enc dec).unsealed y number s x) ring k c [] l
      ∙ ap (λ (y : C). (sectors F enc dec).unsealed y number s x) (sym c-is)
      ∙ sym (sector_unsealed_is F enc dec c number s t t-is x)
