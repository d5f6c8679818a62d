-- A card as a call sees it is its sheet as a call sees it. Assumes nothing.
use Rattle.std.proofs.Common.{◌≡◌, ℕ, zero, suc, ◌+◌, ◌*◌, ◌<◌, ◌≤◌, Bool, true, false, cond, not, ◌&&◌, ◌||◌, eqb, leb, List, length, get_or, take, drop, is_ok, refl, ap, ◌∙◌, arith, length-append}
use Rattle.std.proofs.lemmas.List.{take_at}
use Rattle.std.proofs.lemmas.Bool.{eq-eqb, and_from, le-leb, leb-false}
use Rattle.fault.specs.Faults.{dead_sector}
use Rattle.sheet.specs.Sectors.{Sectors, LawfulSectors}
use Rattle.sheet.specs.Promise.{Sector, blank, holds, Sheet, dead_by, record_of, records, Sealable, IsCardOf, Call, format, opening, write, read, rekey, copy, erase, View, sheet_view, one, change, is_blank, key_of, text_of, checks, sector_checks, own_dead, buffer_after, answer}
use Rattle.sheet.specs.Images.{is_own_mark, sector_of, image_view}
use Rattle.layout.specs.Layout.{header_of}
use Rattle.layout.specs.Checks.{verdict}
use Rattle.layout.specs.Layout.{is_blank_mark, zeros, count_of, is_sized, is_headed, card_number_of, record_at}
use Rattle.layout.proofs.Parts.{drop_past}
use Rattle.sheet.proofs.Records.{records_long, sound_at, record_read, says_back, marked_back, zeroed_back}
use Rattle.layout.proofs.Verdicts.{Same, same_verdict, accepted}

-- two views that no call can tell apart
pub record Agree (v u : View) : Type 0 where
  pub sized : v.sized ≡ u.sized
  pub headed : v.headed ≡ u.headed
  pub number : v.number ≡ u.number
  pub count : v.count ≡ u.count
  pub marked : (s : ℕ) → s < u.count → v.marked s ≡ u.marked s
  pub zeroed : (s : ℕ) → s < u.count → v.zeroed s ≡ u.zeroed s
  pub sector : (s : ℕ) → s < u.count → v.sector s ≡ u.sector s

module _ {C : Type 0} (S : Sectors C) (ring : List C) (v u : View) (g : Agree v u) where
  dead_same : (k s : ℕ) → dead_by S ring k v.number s ≡ dead_by S ring k u.number s
  dead_same k s = ap (λ (n : List ℕ). dead_by S ring k n s) g.number

  here_of : (s : ℕ) (x : Sector) → own_dead S ring v s x ≡ own_dead S ring u s x
  here_of s blank = refl
  here_of s (holds k t) = dead_same k s

  here_same : (s : ℕ) → s < u.count → own_dead S ring v s (v.sector s) ≡ own_dead S ring u s (u.sector s)
  here_same s l = ap (own_dead S ring v s) (g.sector s l) ∙ here_of s (u.sector s)

  key_same : (s : ℕ) → s < u.count → key_of (v.sector s) ≡ key_of (u.sector s)
  key_same s l = ap key_of (g.sector s l)

  below_same : (s : ℕ) → leb v.count s ≡ leb u.count s
  below_same s = ap (λ (n : ℕ). leb n s) g.count

  sectors_same : (s n : ℕ) → s + n ≤ u.count → Same (sector_checks S ring v s n) (sector_checks S ring u s n)
  sectors_same s zero h = tt
  sectors_same s (suc n) h =
      let l : s < u.count = omega arith in
      (ap not (g.marked s l), refl, λ _. (ap not (g.zeroed s l), refl, λ _. (here_same s l, ap (dead_sector s) (key_same s l), λ _. sectors_same (suc s) n (omega arith))))

  checks_same : (a : Call) → Same (checks S ring v a) (checks S ring u a)
  checks_same (format n) = (ap not g.sized, refl, λ _. (refl, refl, λ _. tt))
  checks_same opening = (refl, refl, λ _. (ap not g.sized, refl, λ _. (ap not g.headed, refl, λ _. rw g.count (sectors_same 0 u.count (omega arith)))))
  checks_same (write s k t) = (refl, refl, λ _. (ap not g.sized, refl, λ _. (ap not g.headed, refl, λ _. (below_same s, refl, λ h. let l : s < u.count = leb-false u.count s h in (refl, refl, λ _. (refl, refl, λ _. (dead_same k s, refl, λ _. tt)))))))
  checks_same (read s b) = (refl, refl, λ _. (ap not g.sized, refl, λ _. (ap not g.headed, refl, λ _. (below_same s, refl, λ h. let l : s < u.count = leb-false u.count s h in (refl, refl, λ _. (ap not (g.marked s l), refl, λ _. (ap is_blank (g.sector s l), refl, λ _. (here_same s l, ap (dead_sector s) (key_same s l), λ _. tt))))))))
  checks_same (rekey s k) = (refl, refl, λ _. (ap not g.sized, refl, λ _. (ap not g.headed, refl, λ _. (below_same s, refl, λ h. let l : s < u.count = leb-false u.count s h in (refl, refl, λ _. (ap not (g.marked s l), refl, λ _. (ap is_blank (g.sector s l), refl, λ _. (here_same s l, ap (dead_sector s) (key_same s l), λ _. (dead_same k s, refl, λ _. tt)))))))))
  checks_same (copy s d) = (refl, refl, λ _. (ap not g.sized, refl, λ _. (ap not g.headed, refl, λ _. (below_same s, refl, λ h. let l : s < u.count = leb-false u.count s h in (below_same d, refl, λ _. (ap not (g.marked s l), refl, λ _. (ap is_blank (g.sector s l), refl, λ _. (here_same s l, ap (dead_sector s) (key_same s l), λ _. (ap (λ (k : ℕ). dead_by S ring k v.number d) (key_same s l) ∙ dead_same (key_of (u.sector s)) d, ap (dead_sector d) (key_same s l), λ _. tt)))))))))
  checks_same (erase s) = (ap not g.sized, refl, λ _. (ap not g.headed, refl, λ _. (below_same s, refl, λ h. let l : s < u.count = leb-false u.count s h in tt)))

  pub verdict_same : (a : Call) → verdict (checks S ring v a) ≡ verdict (checks S ring u a)
  verdict_same a = same_verdict (checks S ring v a) (checks S ring u a) (checks_same a)

  -- the sector that an accepted call reads is there
  below_read : (s : ℕ) (b : List ℕ) → is_ok (verdict (checks S ring u (read s b))) ≡ true → s < u.count
  below_read s b h = leb-false u.count s (accepted (checks S ring u (read s b)) h).1.1.1.0

  below_rekey : (s k : ℕ) → is_ok (verdict (checks S ring u (rekey s k))) ≡ true → s < u.count
  below_rekey s k h = leb-false u.count s (accepted (checks S ring u (rekey s k)) h).1.1.1.0

  below_copy : (s d : ℕ) → is_ok (verdict (checks S ring u (copy s d))) ≡ true → s < u.count
  below_copy s d h = leb-false u.count s (accepted (checks S ring u (copy s d)) h).1.1.1.0

  pub change_same : (a : Call) → is_ok (verdict (checks S ring u a)) ≡ true → change v a ≡ change u a
  change_same (format n) h = refl
  change_same opening h = refl
  change_same (write s k t) h = refl
  change_same (read s b) h = refl
  change_same (rekey s k) h = ap (λ (x : Sector). one s (holds k (text_of x))) (g.sector s (below_rekey s k h))
  change_same (copy s d) h = ap (λ (x : Sector). one d (holds (key_of x) (text_of x))) (g.sector s (below_copy s d h))
  change_same (erase s) h = refl

  given_read : (s : ℕ) (b : List ℕ) (r : Bool) → (r ≡ true → s < u.count) → cond r (text_of (v.sector s)) b ≡ cond r (text_of (u.sector s)) b
  given_read s b true h = ap text_of (g.sector s (h refl))
  given_read s b false h = refl

  pub given_same : (a : Call) → buffer_after S ring v a ≡ buffer_after S ring u a
  given_same (format n) = refl
  given_same opening = refl
  given_same (write s k t) = refl
  given_same (read s b) = ap (λ (r : Bool). cond r (text_of (v.sector s)) b) (ap is_ok (verdict_same (read s b))) ∙ given_read s b (is_ok (verdict (checks S ring u (read s b)))) (below_read s b)
  given_same (rekey s k) = refl
  given_same (copy s d) = refl
  given_same (erase s) = refl

  pub answer_same : (a : Call) → answer S ring v a ≡ answer S ring u a
  answer_same a = let e = verdict_same a in let f = given_same a in cc

module _ {C : Type 0} (S : Sectors C) (law : LawfulSectors S) (ring : List C) where
  module _ (s : Sheet) (image : List ℕ) (c : IsCardOf S ring s image) where
    pub header_long : length (header_of S.width s.number) ≡ 2 + S.width
    header_long = omega (arith, c.numbered)

    pub card_long : length image ≡ 2 + S.width + 514 * length s.sectors
    card_long =
        ap length c.bytes
        ∙ length-append (header_of S.width s.number) (records S ring s.number 0 s.sectors)
        ∙ omega (arith, c.numbered, records_long S law ring s.number 0 s.sectors c.sealable)

    pub card_count : count_of S.width image ≡ length s.sectors
    card_count = omega (arith, card_long)

    pub card_sized : is_sized S.width image ≡ true
    card_sized =
        let n = card_count in
        let m = card_long in
        and_from (eqb (length image) (2 + S.width + 514 * count_of S.width image)) (leb 1 (count_of S.width image) && leb (count_of S.width image) 65535)
        (eq-eqb (length image) (2 + S.width + 514 * count_of S.width image) (omega arith))
        (and_from (leb 1 (count_of S.width image)) (leb (count_of S.width image) 65535) (le-leb 1 (count_of S.width image) (omega (arith, c.some))) (le-leb (count_of S.width image) 65535 (omega (arith, c.few))))

    pub card_headed : is_headed S.width image ≡ true
    card_headed = rw c.bytes (eq-eqb S.width S.width refl)

    pub card_number : card_number_of S.width image ≡ s.number
    card_number = rw c.bytes (take_at s.number (records S ring s.number 0 s.sectors) S.width c.numbered)

    pub card_record : (i : ℕ) → i < length s.sectors → record_at S.width image i ≡ record_of S ring s.number i (get_or s.sectors i blank)
    card_record i l =
        let z : 0 + i ≡ i = omega arith in
        ap (λ (im : List ℕ). record_at S.width im i) c.bytes
        ∙ ap (take 514) (drop_past (header_of S.width s.number) (records S ring s.number 0 s.sectors) (2 + S.width) (514 * i) header_long)
        ∙ (rw z at (record_read S law ring s.number 0 i s.sectors c.sealable l))

    pub card_sound : (i : ℕ) → Sealable S ring s.number i (get_or s.sectors i blank)
    card_sound i = let z : 0 + i ≡ i = omega arith in rw z at (sound_at S law ring s.number 0 i s.sectors c.sealable)

    pub card_agrees : Agree (image_view S ring image) (sheet_view s)
    card_agrees = record {
      sized = card_sized;
      headed = card_headed;
      number = card_number;
      count = card_count;
      marked = λ i l. ap (λ (r : List ℕ). is_blank_mark r || is_own_mark S ring r) (card_record i l) ∙ marked_back S law ring s.number i (get_or s.sectors i blank) (card_sound i);
      zeroed = λ i l. ap (λ (r : List ℕ). not (is_blank_mark r) || zeros (drop 2 r)) (card_record i l) ∙ zeroed_back S law ring s.number i (get_or s.sectors i blank) (card_sound i);
      sector = λ i l.
          ap (λ (n : List ℕ). sector_of S ring n i (record_at S.width image i)) card_number
          ∙ ap (sector_of S ring s.number i) (card_record i l)
          ∙ says_back S law ring s.number i (get_or s.sectors i blank) (card_sound i);
    }
