-- Records of a card. Assumes nothing.
use Rattle.std.proofs.Common.{◌≡◌, ℕ, zero, suc, ◌+◌, ◌*◌, ◌<◌, true, false, not, ◌||◌, eqb, ltb, List, [], ◌∷◌, ◌++◌, length, get_or, take, drop, set, replicate, sym, refl, ap, ◌∙◌, ⊎_elim, arith, length-append, length-drop}
use lib.ListN.{length-replicate, replicate-append-replicate}
use borrow.Rule.Slice.PartMut.{put_mid}
use Rattle.std.proofs.lemmas.List.{take_at, get_or-map}
use Rattle.std.proofs.lemmas.Bool.{eqb-true, and_parts, lt-ltb, ltb-true, cases_Bool}
use Rattle.sealing.specs.Texts.{Text}
use Rattle.kind.specs.Laws.{Bytes}
use Rattle.sheet.specs.Sectors.{Sectors, LawfulSectors}
use Rattle.sheet.specs.Promise.{Sector, blank, holds, sealed_by, unsealed_by, dead_by, record_of, records, Sealable, AllSealable}
use Rattle.sheet.specs.Images.{is_own_mark, sector_of}
use Rattle.layout.specs.Layout.{is_blank_mark, zeros}
use Rattle.layout.proofs.Bytes.{bytes_drop}
use Rattle.layout.proofs.Parts.{drop_past, put_mid_past, put_mid_first, same_parts, two_first, zeros_are, zeros_of}

-- the cipher at place k of a ring
pub record Chosen {C : Type 0} (S : Sectors C) (ring : List C) (k : ℕ) : Type 0 where
  pub cipher : C
  pub seals : (number : List ℕ) (s : ℕ) (t : List ℕ) → sealed_by S ring k number s t ≡ S.sealed cipher number s t
  pub unseals : (number : List ℕ) (s : ℕ) (t : List ℕ) → unsealed_by S ring k number s t ≡ S.unsealed cipher number s t

module _ {C : Type 0} (S : Sectors C) where
  pub chosen : (ring : List C) (k : ℕ) → k < length ring → Chosen S ring k
  chosen [] k h = absurd (omega arith)
  chosen (c ∷ cs) k h = record {
    cipher = get_or (c ∷ cs) k c;
    seals = λ number s t. get_or-map (λ x. S.sealed x number s t) (c ∷ cs) k c [] h;
    unseals = λ number s t. get_or-map (λ x. S.unsealed x number s t) (c ∷ cs) k c [] h;
  }

module _ {C : Type 0} (S : Sectors C) (law : LawfulSectors S) (ring : List C) where
  pub sealed_text : (k : ℕ) (n : List ℕ) (s : ℕ) (t : List ℕ) → k < length ring → Text t → Text (sealed_by S ring k n s t)
  sealed_text k n s t h x = let c = chosen S ring k h in rw (c.seals n s t) (law.sealed_text c.cipher n s t x)

  pub unsealed_text : (k : ℕ) (n : List ℕ) (s : ℕ) (t : List ℕ) → k < length ring → Text t → Text (unsealed_by S ring k n s t)
  unsealed_text k n s t h x = let c = chosen S ring k h in rw (c.unseals n s t) (law.unsealed_text c.cipher n s t x)

  pub back : (k : ℕ) (n : List ℕ) (s : ℕ) (t : List ℕ) → k < length ring → Text t → unsealed_by S ring k n s (sealed_by S ring k n s t) ≡ t
  back k n s t h x =
      let c = chosen S ring k h in
      c.unseals n s (sealed_by S ring k n s t) ∙ ap (S.unsealed c.cipher n s) (c.seals n s t) ∙ law.back c.cipher n s t x

  pub forth : (k : ℕ) (n : List ℕ) (s : ℕ) (t : List ℕ) → k < length ring → Text t → sealed_by S ring k n s (unsealed_by S ring k n s t) ≡ t
  forth k n s t h x =
      let c = chosen S ring k h in
      c.seals n s (unsealed_by S ring k n s t) ∙ ap (S.sealed c.cipher n s) (c.unseals n s t) ∙ law.forth c.cipher n s t x

  module _ (number : List ℕ) where
    pub record_long : (s : ℕ) (x : Sector) → Sealable S ring number s x → length (record_of S ring number s x) ≡ 514
    record_long s blank h = length-replicate {A = ℕ} 514 0
    record_long s (holds k t) h = let l = (sealed_text k number s t h.0 h.1).long in omega arith

    pub records_long : (s : ℕ) (xs : List Sector) → AllSealable S ring number s xs → length (records S ring number s xs) ≡ 514 * length xs
    records_long s [] h = refl
    records_long s (x ∷ xs) h =
        let a = record_long s x h.0 in
        let b = records_long (suc s) xs h.1 in
        simp length-append (omega arith)

    pub sound_at : (s i : ℕ) (xs : List Sector) → AllSealable S ring number s xs → Sealable S ring number (s + i) (get_or xs i blank)
    sound_at s i [] h = tt
    sound_at s zero (x ∷ xs) h = let e : s + 0 ≡ s = omega arith in rw e h.0
    sound_at s (suc i) (x ∷ xs) h = let e : s + suc i ≡ suc s + i = omega arith in rw e (sound_at (suc s) i xs h.1)

    pub sound_set : (s i : ℕ) (xs : List Sector) (y : Sector) → AllSealable S ring number s xs → Sealable S ring number (s + i) y → AllSealable S ring number s (set xs i y)
    sound_set s i [] y h g = tt
    sound_set s zero (x ∷ xs) y h g = let e : s + 0 ≡ s = omega arith in (rw e at g, h.1)
    sound_set s (suc i) (x ∷ xs) y h g = let e : s + suc i ≡ suc s + i = omega arith in (h.0, sound_set (suc s) i xs y h.1 (rw e at g))

    pub record_read : (s i : ℕ) (xs : List Sector) → AllSealable S ring number s xs → i < length xs → take 514 (drop (514 * i) (records S ring number s xs)) ≡ record_of S ring number (s + i) (get_or xs i blank)
    record_read s i [] h l = absurd (omega arith)
    record_read s zero (x ∷ xs) h l =
        let e : s + 0 ≡ s = omega arith in
        rw e (take_at (record_of S ring number s x) (records S ring number (suc s) xs) 514 (record_long s x h.0))
    record_read s (suc i) (x ∷ xs) h l =
        let e : s + suc i ≡ suc s + i = omega arith in
        let f : 514 * suc i ≡ 514 + 514 * i = omega arith in
        rw (e, f) (ap (take 514) (drop_past (record_of S ring number s x) (records S ring number (suc s) xs) 514 (514 * i) (record_long s x h.0)) ∙ record_read (suc s) i xs h.1 (omega arith))

    pub record_put : (s i : ℕ) (xs : List Sector) (y : Sector) → AllSealable S ring number s xs → i < length xs → put_mid (514 * i) 514 (records S ring number s xs) (record_of S ring number (s + i) y) ≡ records S ring number s (set xs i y)
    record_put s i [] y h l = absurd (omega arith)
    record_put s zero (x ∷ xs) y h l =
        let e : s + 0 ≡ s = omega arith in
        rw e (put_mid_first (record_of S ring number s x) (records S ring number (suc s) xs) (record_of S ring number s y) 514 (record_long s x h.0))
    record_put s (suc i) (x ∷ xs) y h l =
        let e : s + suc i ≡ suc s + i = omega arith in
        let f : 514 * suc i ≡ 514 + 514 * i = omega arith in
        rw (e, f) (put_mid_past (record_of S ring number s x) (records S ring number (suc s) xs) (record_of S ring number (suc s + i) y) 514 (514 * i) 514 (record_long s x h.0) ∙ ap (λ (r : List ℕ). record_of S ring number s x ++ r) (record_put (suc s) i xs y h.1 (omega arith)))

    pub blanks_sound : (s n : ℕ) → AllSealable S ring number s (replicate n blank)
    blanks_sound s zero = tt
    blanks_sound s (suc n) = (tt, blanks_sound (suc s) n)

    pub blanks_are : (s n : ℕ) → records S ring number s (replicate n blank) ≡ replicate (514 * n) 0
    blanks_are s zero = refl
    blanks_are s (suc n) =
        let f : 514 + 514 * n ≡ 514 * suc n = omega arith in
        ap (λ (r : List ℕ). replicate 514 0 ++ r) (blanks_are (suc s) n) ∙ replicate-append-replicate 514 (514 * n) 0 ∙ ap (λ (m : ℕ). replicate m 0) f

    -- what a record says is the sector that it was made of
    pub says_back : (s : ℕ) (x : Sector) → Sealable S ring number s x → sector_of S ring number s (record_of S ring number s x) ≡ x
    says_back s blank h = refl
    says_back s (holds k t) h = ap (holds k) (back k number s t h.0 h.1)

    pub marked_back : (s : ℕ) (x : Sector) → Sealable S ring number s x → (is_blank_mark (record_of S ring number s x) || is_own_mark S ring (record_of S ring number s x)) ≡ true
    marked_back s blank h = refl
    marked_back s (holds k t) h = lt-ltb k (length ring) h.0

    pub zeroed_back : (s : ℕ) (x : Sector) → Sealable S ring number s x → (not (is_blank_mark (record_of S ring number s x)) || zeros (drop 2 (record_of S ring number s x))) ≡ true
    zeroed_back s blank h = zeros_of 512
    zeroed_back s (holds k t) h = refl

    -- equal records say equal sectors
    pub record_same : (s : ℕ) (x y : Sector) → Sealable S ring number s x → Sealable S ring number s y → record_of S ring number s x ≡ record_of S ring number s y → x ≡ y
    record_same s x y h g e = sym (says_back s x h) ∙ ap (sector_of S ring number s) e ∙ says_back s y g

    pub records_same : (s : ℕ) (xs ys : List Sector) → AllSealable S ring number s xs → AllSealable S ring number s ys → length xs ≡ length ys → records S ring number s xs ≡ records S ring number s ys → xs ≡ ys
    records_same s [] [] h g n e = refl
    records_same s [] (y ∷ ys) h g n e = absurd (omega arith)
    records_same s (x ∷ xs) [] h g n e = absurd (omega arith)
    records_same s (x ∷ xs) (y ∷ ys) h g n e =
        let l : length (record_of S ring number s x) ≡ length (record_of S ring number s y) = record_long s x h.0 ∙ sym (record_long s y g.0) in
        let p = same_parts (record_of S ring number s x) (record_of S ring number s y) (records S ring number (suc s) xs) (records S ring number (suc s) ys) l e in
        let a = record_same s x y h.0 g.0 p.0 in
        let b = records_same (suc s) xs ys h.1 g.1 (omega arith) p.1 in
        cc

    -- a record that passes the checks is that of what it says
    pub record Passes (s : ℕ) (r : List ℕ) : Type 0 where
      pub long : length r ≡ 514
      pub bytes : Bytes r
      pub marked : (is_blank_mark r || is_own_mark S ring r) ≡ true
      pub zeroed : (not (is_blank_mark r) || zeros (drop 2 r)) ≡ true
      pub alive : is_blank_mark r ≡ false → dead_by S ring (get_or r 1 0) number s ≡ false

    pub record_says : (s : ℕ) (r : List ℕ) → Passes s r → Sealable S ring number s (sector_of S ring number s r) × (record_of S ring number s (sector_of S ring number s r) ≡ r)
    record_says s r p =
        ⊎_elim
        (λ (b : is_blank_mark r ≡ true).
        let z : zeros (drop 2 r) ≡ true = rw b at p.zeroed in
        let m = and_parts (eqb (get_or r 0 0) 0) (eqb (get_or r 1 0) 0) b in
        let n : length (drop 2 r) ≡ 512 = simp length-drop (omega (arith, p.long)) in
        let e : r ≡ replicate 514 0 =
        two_first r (omega (arith, p.long))
        ∙ ap (λ (k : ℕ). k ∷ (get_or r 1 0 ∷ drop 2 r)) (eqb-true (get_or r 0 0) 0 m.0)
        ∙ ap (λ (k : ℕ). 0 ∷ (k ∷ drop 2 r)) (eqb-true (get_or r 1 0) 0 m.1)
        ∙ ap {B = List ℕ} (λ l. 0 ∷ (0 ∷ l)) (zeros_are (drop 2 r) z ∙ ap (λ (k : ℕ). replicate k 0) n) in
        let q : sector_of S ring number s r ≡ blank = rw b refl in
        rw q (tt, sym e))
        (λ (b : is_blank_mark r ≡ false).
        let m : is_own_mark S ring r ≡ true = rw b at p.marked in
        let ms = and_parts (eqb (get_or r 0 0) 75) (ltb (get_or r 1 0) (length ring)) m in
        let k : get_or r 1 0 < length ring = ltb-true (get_or r 1 0) (length ring) ms.1 in
        let x : Text (drop 2 r) = record { long = simp length-drop (omega (arith, p.long)); bytes = bytes_drop 2 r p.bytes } in
        let d = p.alive b in
        let q : sector_of S ring number s r ≡ holds (get_or r 1 0) (unsealed_by S ring (get_or r 1 0) number s (drop 2 r)) = rw b refl in
        let e : 75 ∷ (get_or r 1 0 ∷ sealed_by S ring (get_or r 1 0) number s (unsealed_by S ring (get_or r 1 0) number s (drop 2 r))) ≡ r =
        ap {B = List ℕ} (λ l. 75 ∷ (get_or r 1 0 ∷ l)) (forth (get_or r 1 0) number s (drop 2 r) k x)
        ∙ ap (λ (j : ℕ). j ∷ (get_or r 1 0 ∷ drop 2 r)) (sym (eqb-true (get_or r 0 0) 75 ms.0))
        ∙ sym (two_first r (omega (arith, p.long))) in
        rw q ((k, unsealed_text (get_or r 1 0) number s (drop 2 r) k x, d), e))
        (cases_Bool (is_blank_mark r))
