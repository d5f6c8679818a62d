-- An image that open accepts is the card of the sheet that it says; and the promise on lists. Assumes nothing.
use Rattle.std.proofs.Common.{◌≡◌, ℕ, zero, suc, ◌+◌, ◌*◌, ◌≤◌, true, false, not, ◌&&◌, eqb, leb, List, [], ◌∷◌, ◌++◌, length, get_or, drop, replicate, is_ok, Result, sym, refl, ap, ◌∙◌, arith, length-drop, take-append-drop, length-take}
use Rattle.fault.specs.declared.Fault.{Fault}
use Rattle.std.proofs.lemmas.List.{drop-drop, drop_all}
use Rattle.std.proofs.lemmas.Bool.{eqb-true, and_parts, and_from, le-leb, leb-true, not-false, not_from_true, cond-true}
use Rattle.kind.specs.Laws.{Bytes}
use Rattle.sheet.specs.Sectors.{Sectors, LawfulSectors}
use Rattle.sheet.specs.Promise.{IsRing, Sector, blank, holds, Sheet, records, Sealable, AllSealable, IsCardOf, Call, format, opening, write, read, rekey, copy, erase, View, sheet_view, checks, ring_check, sector_checks, own_dead, IsFormatOrOpen, Kept, KeepsSheet, OpensExactlyCards, answer}
use Rattle.sheet.specs.Images.{image_view, image_after, final_image, answers_on, Given, AllGiven}
use Rattle.layout.specs.Layout.{header_of}
use Rattle.layout.specs.Checks.{verdict}
use Rattle.layout.specs.Layout.{count_of, is_sized, is_headed, card_number_of, record_start, record_at}
use Rattle.layout.proofs.Bytes.{bytes_drop, bytes_take}
use Rattle.layout.proofs.Parts.{two_first}
use Rattle.sheet.proofs.Records.{Passes, record_says}
use Rattle.layout.proofs.Verdicts.{Passed, accepted, accepts}
use Rattle.sheet.proofs.Views.{verdict_same, card_agrees, card_sound}
use Rattle.sheet.proofs.Steps.{fresh_card, list_card, list_said, one_sheet, sheet_of}

module _ {C : Type 0} (S : Sectors C) (law : LawfulSectors S) (ring : List C) where
  module _ (image : List ℕ) (plain : Bytes image) where
    -- the n sectors from s on that the image's records say
    abbrev said : ℕ → ℕ → List Sector
    said s zero = []
    said s (suc n) = (image_view S ring image).sector s ∷ said (suc s) n

    said_long : (s n : ℕ) → length (said s n) ≡ n
    said_long s zero = refl
    said_long s (suc n) = ap suc (said_long (suc s) n)

    record_passes : (s : ℕ) → record_start S.width s + 514 ≤ length image → (not ((image_view S ring image).marked s) ≡ false) → (not ((image_view S ring image).zeroed s) ≡ false) → own_dead S ring (image_view S ring image) s ((image_view S ring image).sector s) ≡ false → Passes S law ring (card_number_of S.width image) s (record_at S.width image s)
    record_passes s l m z d = record {
      long = simp (length-take, length-drop) (omega arith);
      bytes = bytes_take 514 (drop (record_start S.width s) image) (bytes_drop (record_start S.width s) image plain);
      marked = not-false _ m;
      zeroed = not-false _ z;
      alive = λ b. rw b at d;
    }

    records_say : (s n : ℕ) → record_start S.width s + 514 * n ≡ length image → Passed (sector_checks S ring (image_view S ring image) s n) → AllSealable S ring (card_number_of S.width image) s (said s n) × (records S ring (card_number_of S.width image) s (said s n) ≡ drop (record_start S.width s) image)
    records_say s zero l p = (tt, sym (drop_all (record_start S.width s) image (omega arith)))
    records_say s (suc n) l p =
        let here = record_says S law ring (card_number_of S.width image) s (record_at S.width image s) (record_passes s (omega arith) p.0 p.1.0 p.1.1.0) in
        let e : record_start S.width s + 514 ≡ record_start S.width (suc s) = omega arith in
        let more = records_say (suc s) n (omega arith) p.1.1.1 in (
          (here.0, more.0),
          ap (λ (r : List ℕ). r ++ records S ring (card_number_of S.width image) (suc s) (said (suc s) n)) here.1
              ∙ ap (λ (r : List ℕ). record_at S.width image s ++ r) (more.1 ∙ ap (λ (k : ℕ). drop k image) (sym e) ∙ sym (drop-drop 514 (record_start S.width s) image))
              ∙ take-append-drop 514 (drop (record_start S.width s) image),
        )

    pub opened_card : is_ok (verdict (checks S ring (image_view S ring image) opening)) ≡ true → IsCardOf S ring (sheet_of (card_number_of S.width image) (said 0 (count_of S.width image))) image
    opened_card h =
        let p = accepted (checks S ring (image_view S ring image) opening) h in
        let z = and_parts (eqb (length image) (2 + S.width + 514 * count_of S.width image)) (leb 1 (count_of S.width image) && leb (count_of S.width image) 65535) (not-false (is_sized S.width image) p.1.0) in
        let y = and_parts (leb 1 (count_of S.width image)) (leb (count_of S.width image) 65535) z.1 in
        let l : length image ≡ 2 + S.width + 514 * count_of S.width image = eqb-true (length image) (2 + S.width + 514 * count_of S.width image) z.0 in
        let m = and_parts (eqb (get_or image 0 0) 67) (eqb (get_or image 1 0) S.width) (not-false (is_headed S.width image) p.1.1.0) in
        let rs = records_say 0 (count_of S.width image) (omega arith) p.1.1.1 in
        let q : record_start S.width 0 ≡ 2 + S.width = omega arith in
        record {
          some = rw (said_long 0 (count_of S.width image)) (leb-true 1 (count_of S.width image) y.0);
          few = rw (said_long 0 (count_of S.width image)) (leb-true (count_of S.width image) 65535 y.1);
          numbered = simp (length-take, length-drop) (omega arith);
          sealable = rs.0;
          bytes =
              two_first image (omega arith)
              ∙ ap (λ (k : ℕ). k ∷ (get_or image 1 0 ∷ drop 2 image)) (eqb-true (get_or image 0 0) 67 m.0)
              ∙ ap (λ (k : ℕ). 67 ∷ (k ∷ drop 2 image)) (eqb-true (get_or image 1 0) S.width m.1)
              ∙ ap {B = List ℕ} (λ r. 67 ∷ (S.width ∷ r)) (sym (take-append-drop S.width (drop 2 image)))
              ∙ ap (λ (r : List ℕ). header_of S.width (card_number_of S.width image) ++ r) (drop-drop S.width 2 image ∙ ap (λ (k : ℕ). drop k image) (sym q) ∙ sym rs.1);
        }

  -- a sound sheet passes open's checks
  all_pass : (s : Sheet) (i n : ℕ) → ((k : ℕ) → own_dead S ring (sheet_view s) k ((sheet_view s).sector k) ≡ false) → Passed (sector_checks S ring (sheet_view s) i n)
  all_pass s i zero h = tt
  all_pass s i (suc n) h = (refl, (refl, (h i, all_pass s (suc i) n h)))

  here_alive : (s : Sheet) (k : ℕ) (x : Sector) → Sealable S ring s.number k x → own_dead S ring (sheet_view s) k x ≡ false
  here_alive s k blank h = refl
  here_alive s k (holds i t) h = h.2

  module _ (ok : IsRing ring) where
    ring_good : (v : View) → (ring_check S ring v).fails ≡ false
    ring_good v = not_from_true (leb 1 (length ring) && leb (length ring) 8) (and_from (leb 1 (length ring)) (leb (length ring) 8) (le-leb 1 (length ring) ok.some) (le-leb (length ring) 8 ok.few))

    pub card_opens : (s : Sheet) (image : List ℕ) → IsCardOf S ring s image → is_ok (verdict (checks S ring (image_view S ring image) opening)) ≡ true
    card_opens s image c =
        let e = verdict_same S ring (image_view S ring image) (sheet_view s) (card_agrees S law ring s image c) opening in
        ap is_ok e ∙ accepts (checks S ring (sheet_view s) opening) (ring_good (sheet_view s), (refl, (refl, all_pass s 0 (length s.sectors) (λ k. here_alive s k (get_or s.sectors k blank) (card_sound S law ring s image c k)))))

    -- (b)
    pub opened : (image : List ℕ) (r : Result (Unit {0}) Fault) → Bytes image → r ≡ verdict (checks S ring (image_view S ring image) opening) → OpensExactlyCards S ring image r
    opened image r plain e = record {
      one_sheet = λ s t c d. one_sheet S law ring s t image c d;
      opened_if_card = λ s c. ap is_ok e ∙ card_opens s image c;
      card_if_opened = λ h. (sheet_of (card_number_of S.width image) (said image plain 0 (count_of S.width image)), opened_card image plain (ap is_ok (sym e) ∙ h));
    }

    -- a list that begins with an accepted format or open
    pub kept : (image : List ℕ) (first : Call) (more : List Call) → Bytes image → Given first → AllGiven more → IsFormatOrOpen S ring first → is_ok (answer S ring (image_view S ring image) first).outcome ≡ true → Kept S ring image first more (final_image S ring image (first ∷ more)) (answers_on S ring (image_after S ring image first) more)
    kept image (format n) more b g gs st h =
        let p = accepted (checks S ring (image_view S ring image) (format n)) h in
        let y = and_parts (eqb (length image) (2 + S.width + 514 * count_of S.width image)) (leb 1 (count_of S.width image) && leb (count_of S.width image) 65535) (not-false (is_sized S.width image) p.0) in
        let z = and_parts (leb 1 (count_of S.width image)) (leb (count_of S.width image) 65535) y.1 in
        let x : image_after S ring image (format n) ≡ header_of S.width n ++ replicate (514 * count_of S.width image) 0 = cond-true (is_ok (verdict (checks S ring (image_view S ring image) (format n)))) _ _ h in
        let s = sheet_of n (replicate (count_of S.width image) blank) in
        let c : IsCardOf S ring s (image_after S ring image (format n)) = rw x (fresh_card S law ring n (count_of S.width image) (eqb-true (length n) S.width (not-false (eqb (length n) S.width) p.1.0)) (leb-true 1 (count_of S.width image) z.0) (leb-true (count_of S.width image) 65535 z.1)) in
        record {
          sheet = s;
          begins = refl;
          card = list_card S law ring s (image_after S ring image (format n)) more c gs;
          answers_are = list_said S law ring s (image_after S ring image (format n)) more c gs;
        }
    kept image opening more b g gs st h =
        let x : image_after S ring image opening ≡ image = cond-true (is_ok (verdict (checks S ring (image_view S ring image) opening))) _ _ h in
        let s = sheet_of (card_number_of S.width image) (said image b 0 (count_of S.width image)) in
        let d : IsCardOf S ring s image = opened_card image b h in
        let c : IsCardOf S ring s (image_after S ring image opening) = rw x d in
        record {
          sheet = s;
          begins = (d, λ t e. one_sheet S law ring t s image e d);
          card = list_card S law ring s (image_after S ring image opening) more c gs;
          answers_are = list_said S law ring s (image_after S ring image opening) more c gs;
        }
    kept image (write s k t) more b g gs st h = absurd st
    kept image (read s bf) more b g gs st h = absurd st
    kept image (rekey s k) more b g gs st h = absurd st
    kept image (copy s d) more b g gs st h = absurd st
    kept image (erase s) more b g gs st h = absurd st

    pub keeps : (image : List ℕ) (asks : List Call) → Bytes image → AllGiven asks → KeepsSheet S ring image asks (final_image S ring image asks) (answers_on S ring image asks)
    keeps image [] b g = tt
    keeps image (first ∷ more) b g = λ st h. kept image first more b g.0 g.1 st h
