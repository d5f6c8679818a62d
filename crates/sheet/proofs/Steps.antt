-- Each call takes the card of a sheet to the card of the sheet after it; so does a list of calls. Assumes nothing.
use Rattle.std.proofs.Common.{◌≡◌, ℕ, ◌+◌, ◌*◌, ◌<◌, ◌≤◌, true, false, eqb, List, [], ◌∷◌, ◌++◌, length, get_or, set, replicate, is_ok, sym, refl, ap, ◌∙◌, ⊎_elim, arith, length-set}
use lib.ListN.{length-replicate}
use borrow.Rule.Slice.PartMut.{put_mid}
use Rattle.std.proofs.lemmas.Bool.{eqb-true, cases_Bool, leb-false, not-false, cond-true, cond-false}
use Rattle.sealing.specs.Texts.{Text}
use Rattle.sheet.specs.Sectors.{Sectors, LawfulSectors}
use Rattle.sheet.specs.Promise.{Sector, blank, holds, Sheet, record_of, records, Sealable, AllSealable, IsCardOf, Call, format, opening, write, read, rekey, copy, erase, sheet_view, sheet_with, one, change, is_blank, key_of, text_of, checks, sheet_after, final_sheet, decided, EqualCardsEqualSheets}
use Rattle.sheet.specs.Images.{image_view, image_with, image_after, final_image, answers_on, Given, AllGiven}
use Rattle.layout.specs.Layout.{header_of}
use Rattle.layout.specs.Checks.{verdict}
use Rattle.layout.specs.Layout.{card_number_of, record_start}
use Rattle.layout.proofs.Parts.{put_mid_past, same_parts}
use Rattle.sheet.proofs.Records.{sound_set, record_put, blanks_sound, blanks_are, records_same}
use Rattle.layout.proofs.Verdicts.{Passed, accepted}
use Rattle.sheet.proofs.Views.{verdict_same, change_same, answer_same, header_long, card_long, card_count, card_number, card_sound, card_agrees}

abbrev pub sheet_of : List ℕ → List Sector → Sheet
sheet_of n xs = record { number = n; sectors = xs }

module _ {C : Type 0} (S : Sectors C) (law : LawfulSectors S) (ring : List C) where
  -- a fresh card
  pub fresh_card : (n : List ℕ) (k : ℕ) → length n ≡ S.width → 1 ≤ k → k ≤ 65535 → IsCardOf S ring (record { number = n; sectors = replicate k blank }) (header_of S.width n ++ replicate (514 * k) 0)
  fresh_card n k w l m = record {
    some = rw (length-replicate k blank) l;
    few = rw (length-replicate k blank) m;
    numbered = w;
    sealable = blanks_sound S law ring n 0 k;
    bytes = ap (λ (r : List ℕ). header_of S.width n ++ r) (sym (blanks_are S law ring n 0 k));
  }

  -- one sector is written
  pub put_card : (s : Sheet) (image : List ℕ) (i : ℕ) (x : Sector) → IsCardOf S ring s image → i < length s.sectors → Sealable S ring s.number i x → IsCardOf S ring (sheet_with s (one i x)) (image_with S ring image (one i x))
  put_card s image i x c l h =
      let z : 0 + i ≡ i = omega arith in
      let rs = records S ring s.number 0 s.sectors in
      let e : put_mid (record_start S.width i) 514 image (record_of S ring (card_number_of S.width image) i x) ≡ header_of S.width s.number ++ records S ring s.number 0 (set s.sectors i x) =
      ap (λ (n : List ℕ). put_mid (record_start S.width i) 514 image (record_of S ring n i x)) (card_number S law ring s image c)
      ∙ ap (λ (im : List ℕ). put_mid (record_start S.width i) 514 im (record_of S ring s.number i x)) c.bytes
      ∙ put_mid_past (header_of S.width s.number) rs (record_of S ring s.number i x) (2 + S.width) (514 * i) 514 (header_long S law ring s image c)
      ∙ ap (λ (r : List ℕ). header_of S.width s.number ++ r) (rw z at (record_put S law ring s.number 0 i s.sectors x c.sealable l)) in
      record {
        some = rw (length-set s.sectors i x) c.some;
        few = rw (length-set s.sectors i x) c.few;
        numbered = c.numbered;
        sealable = sound_set S law ring s.number 0 i s.sectors x c.sealable (rw z h);
        bytes = e;
      }

  -- what a sector that is not blank holds
  pub held : (n : List ℕ) (s : ℕ) (x : Sector) → is_blank x ≡ false → Sealable S ring n s x → (key_of x < length ring) × Text (text_of x)
  held n s blank e h = let z : ◌≡◌ {A = ℕ} 0 1 = cc in absurd (omega arith)
  held n s (holds k t) e h = (h.0, h.1)

  -- what an accepted call on a card changes keeps it a card
  pub change_card : (s : Sheet) (image : List ℕ) (a : Call) → IsCardOf S ring s image → Given a → Passed (checks S ring (sheet_view s) a) → IsCardOf S ring (sheet_with s (change (sheet_view s) a)) (image_with S ring image (change (sheet_view s) a))
  change_card s image (format n) c g p =
      rw (card_count S law ring s image c)
      (fresh_card n (length s.sectors) (eqb-true (length n) S.width (not-false (eqb (length n) S.width) p.1.0)) c.some c.few)
  change_card s image opening c g p = c
  change_card s image (write i k t) c g p =
      put_card s image i (holds k t) c (leb-false (length s.sectors) i p.1.1.1.0) (
        leb-false (length ring) k p.1.1.1.1.0,
        record { long = eqb-true (length t) 512 (not-false (eqb (length t) 512) p.1.1.1.1.1.0); bytes = g },
        p.1.1.1.1.1.1.0,
      )
  change_card s image (read i b) c g p = c
  change_card s image (rekey i k) c g p =
      let h = held s.number i (get_or s.sectors i blank) p.1.1.1.1.1.1.0 (card_sound S law ring s image c i) in
      put_card s image i (holds k (text_of (get_or s.sectors i blank))) c (leb-false (length s.sectors) i p.1.1.1.0)
      (leb-false (length ring) k p.1.1.1.1.0, h.1, p.1.1.1.1.1.1.1.1.0)
  change_card s image (copy i d) c g p =
      let h = held s.number i (get_or s.sectors i blank) p.1.1.1.1.1.1.0 (card_sound S law ring s image c i) in
      put_card s image d (holds (key_of (get_or s.sectors i blank)) (text_of (get_or s.sectors i blank))) c (leb-false (length s.sectors) d p.1.1.1.1.0)
      (h.0, h.1, p.1.1.1.1.1.1.1.1.0)
  change_card s image (erase i) c g p = put_card s image i blank c (leb-false (length s.sectors) i p.1.1.0) tt

  pub step_card : (s : Sheet) (image : List ℕ) (a : Call) → IsCardOf S ring s image → Given a → IsCardOf S ring (sheet_after S ring s a) (image_after S ring image a)
  step_card s image a c g =
      let u = sheet_view s in
      let v = image_view S ring image in
      let same = card_agrees S law ring s image c in
      let e : verdict (checks S ring v a) ≡ verdict (checks S ring u a) = verdict_same S ring v u same a in
      ⊎_elim
      (λ (t : is_ok (verdict (checks S ring u a)) ≡ true).
      let w : is_ok (verdict (checks S ring v a)) ≡ true = ap is_ok e ∙ t in
      let x : image_after S ring image a ≡ image_with S ring image (change u a) = cond-true (is_ok (verdict (checks S ring v a))) _ _ w ∙ ap (image_with S ring image) (change_same S ring v u same a t) in
      let y : sheet_after S ring s a ≡ sheet_with s (change u a) = cond-true (is_ok (verdict (checks S ring u a))) _ _ t in
      rw (x, y) (change_card s image a c g (accepted (checks S ring u a) t)))
      (λ (f : is_ok (verdict (checks S ring u a)) ≡ false).
      let w : is_ok (verdict (checks S ring v a)) ≡ false = ap is_ok e ∙ f in
      let x : image_after S ring image a ≡ image = cond-false (is_ok (verdict (checks S ring v a))) _ _ w in
      let y : sheet_after S ring s a ≡ s = cond-false (is_ok (verdict (checks S ring u a))) _ _ f in
      rw (x, y) c)
      (cases_Bool (is_ok (verdict (checks S ring u a))))

  pub list_card : (s : Sheet) (image : List ℕ) (asks : List Call) → IsCardOf S ring s image → AllGiven asks → IsCardOf S ring (final_sheet S ring s asks) (final_image S ring image asks)
  list_card s image [] c g = c
  list_card s image (a ∷ more) c g = list_card (sheet_after S ring s a) (image_after S ring image a) more (step_card s image a c g.0) g.1

  pub list_said : (s : Sheet) (image : List ℕ) (asks : List Call) → IsCardOf S ring s image → AllGiven asks → answers_on S ring image asks ≡ decided S ring s asks
  list_said s image [] c g = refl
  list_said s image (a ∷ more) c g =
      let e = answer_same S ring (image_view S ring image) (sheet_view s) (card_agrees S law ring s image c) a in
      let f = list_said (sheet_after S ring s a) (image_after S ring image a) more (step_card s image a c g.0) g.1 in
      cc

  -- (a), and one image is the card of one sheet only
  pub number_same : (s t : Sheet) (image : List ℕ) → IsCardOf S ring s image → IsCardOf S ring t image → s.number ≡ t.number
  number_same s t image c d = sym (card_number S law ring s image c) ∙ card_number S law ring t image d

  pub sectors_same : (s t : Sheet) (x y : List ℕ) → IsCardOf S ring s x → IsCardOf S ring t y → s.number ≡ t.number → x ≡ y → s.sectors ≡ t.sectors
  sectors_same s t x y c d n e =
      let l : length s.sectors ≡ length t.sectors = omega (arith, card_long S law ring s x c, card_long S law ring t y d, ap length e) in
      let h : header_of S.width s.number ++ records S ring s.number 0 s.sectors ≡ header_of S.width t.number ++ records S ring t.number 0 t.sectors = sym c.bytes ∙ e ∙ d.bytes in
      let m : length (header_of S.width s.number) ≡ length (header_of S.width t.number) = header_long S law ring s x c ∙ sym (header_long S law ring t y d) in
      let r = (same_parts (header_of S.width s.number) (header_of S.width t.number) (records S ring s.number 0 s.sectors) (records S ring t.number 0 t.sectors) m h).1 in
      let q : records S ring s.number 0 s.sectors ≡ records S ring s.number 0 t.sectors = r ∙ ap (λ (k : List ℕ). records S ring k 0 t.sectors) (sym n) in
      let b : AllSealable S ring s.number 0 t.sectors = rw n d.sealable in
      records_same S law ring s.number 0 s.sectors t.sectors c.sealable b l q

  pub equal_cards : EqualCardsEqualSheets S ring
  equal_cards s t x y c d n l = (
    sectors_same s t x y c d n,
    λ e. c.bytes ∙ ap (λ (k : List ℕ). header_of S.width k ++ records S ring k 0 s.sectors) n ∙ ap (λ (k : List Sector). header_of S.width t.number ++ records S ring t.number 0 k) e ∙ sym d.bytes,
  )

  pub one_sheet : (s t : Sheet) (image : List ℕ) → IsCardOf S ring s image → IsCardOf S ring t image → s ≡ t
  one_sheet s t image c d =
      let n = number_same s t image c d in
      let e = sectors_same s t image image c d n refl in
      ap (λ (k : List ℕ). sheet_of k s.sectors) n ∙ ap (sheet_of t.number) e
