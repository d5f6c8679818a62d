-- Sheets, their cards, the seven calls, and the promise on lists of calls: the page for a buyer's engineer.
-- The bytes of header and record are in layout's specs, and the sealing of one sector in Sectors.
use Rattle.std.specs.Prelude.{◌≡◌, ℕ, zero, suc, ◌<◌, ◌≤◌, Bool, true, false, cond, not, ◌&&◌, leb, ◌↔◌, List, [], ◌∷◌, ◌++◌, map, length, replicate, is_ok, Result, ◌==◌, nat_le, slice_index_or, slice_set}
use Rattle.fault.specs.declared.Fault.{Fault}
use Rattle.fault.specs.declared.Fault.TheVariants.{RingSize, ImageLength, BadHeader, NoSector, NoKey, TextLength, BadMark, BlankNotZero, BlankSector, CardNumberLength}
use Rattle.fault.specs.Faults.{dead_sector}
use Rattle.sealing.specs.Texts.{Text}
use Rattle.layout.specs.Checks.{Check, ◌⇒◌, verdict}
use Rattle.layout.specs.Layout.{sector_length, record_length, most_sectors, most_keys, header_of, sealed_mark, count_of}
use Rattle.sheet.specs.Sectors.{Sectors}

------------------------------------------------------------ Sheets

-- a sector of a sheet: blank, or a key number and a text
pub data Sector : Type 0 where
  blank : Sector
  holds : ℕ → List ℕ → Sector

-- a sheet, with the number of its card
pub record Sheet : Type 0 where
  pub number : List ℕ
  pub sectors : List Sector

abbrev pub is_blank : Sector → Bool
is_blank blank = true
is_blank (holds k t) = false

abbrev pub key_of : Sector → ℕ
key_of blank = 0
key_of (holds k t) = k

abbrev pub text_of : Sector → List ℕ
text_of blank = []
text_of (holds k t) = t

------------------------------------------------------------ Cards

-- a ring: one to eight ciphers of one type; a key number is a place in it
pub record IsRing {C : Type 0} (ring : List C) : Type 0 where
  pub some : 1 ≤ length ring
  pub few : length ring ≤ most_keys

module _ {C : Type 0} (S : Sectors C) (ring : List C) where
  -- by the cipher at place k of the ring: a text sealed and unsealed, and whether the tweak is dead
  abbrev pub sealed_by : ℕ → List ℕ → ℕ → List ℕ → List ℕ
  sealed_by k number s t = slice_index_or (map (λ c. S.sealed c number s t) ring) k []

  abbrev pub unsealed_by : ℕ → List ℕ → ℕ → List ℕ → List ℕ
  unsealed_by k number s t = slice_index_or (map (λ c. S.unsealed c number s t) ring) k []

  abbrev pub dead_by : ℕ → List ℕ → ℕ → Bool
  dead_by k number s = slice_index_or (map (λ c. S.dead c number s) ring) k true

  -- the record of sector s: the mark 00 00 and zeros, or the mark 4B hex with the key number and the sealed text
  abbrev pub record_of : List ℕ → ℕ → Sector → List ℕ
  record_of number s blank = replicate record_length 0
  record_of number s (holds k t) = sealed_mark k ++ sealed_by k number s t

  -- the records of the sectors from s on
  abbrev pub records : List ℕ → ℕ → List Sector → List ℕ
  records number s [] = []
  records number s (x ∷ xs) = record_of number s x ++ records number (suc s) xs

  -- a sector that can be on a card: its key number is on the ring, its text has 512 bytes, and its tweak is not dead
  abbrev pub Sealable : List ℕ → ℕ → Sector → Type 0
  Sealable number s blank = Unit {0}
  Sealable number s (holds k t) = (k < length ring) × Text t × (dead_by k number s ≡ false)

  abbrev pub AllSealable : List ℕ → ℕ → List Sector → Type 0
  AllSealable number s [] = Unit {0}
  AllSealable number s (x ∷ xs) = Sealable number s x × AllSealable number (suc s) xs

  -- the image is the card of the sheet; a sheet with a refused sealing has no card
  pub record IsCardOf (sheet : Sheet) (image : List ℕ) : Type 0 where
    pub some : 1 ≤ length sheet.sectors
    pub few : length sheet.sectors ≤ most_sectors
    pub numbered : length sheet.number ≡ S.width
    pub sealable : AllSealable sheet.number 0 sheet.sectors
    pub bytes : image ≡ header_of S.width sheet.number ++ records sheet.number 0 sheet.sectors

------------------------------------------------------------ Calls

-- a call with its arguments; a text and a reading buffer are given by their bytes
pub data Call : Type 0 where
  format : List ℕ → Call
  opening : Call
  write : ℕ → ℕ → List ℕ → Call
  read : ℕ → List ℕ → Call
  rekey : ℕ → ℕ → Call
  copy : ℕ → ℕ → Call
  erase : ℕ → Call

-- what a call sees, of a sheet or of the bytes of an image
pub record View : Type 0 where
  pub sized : Bool
  pub headed : Bool
  pub number : List ℕ
  pub count : ℕ
  -- the mark of a record is that of a blank or of a key on the ring
  pub marked : ℕ → Bool
  -- a record that is marked blank holds zeros
  pub zeroed : ℕ → Bool
  pub sector : ℕ → Sector

-- what a call sees of a sheet: its length, header, marks and blanks are never wrong, so that 3, 7 and 8 never come
abbrev pub sheet_view : Sheet → View
sheet_view s = record {
  sized = true;
  headed = true;
  number = s.number;
  count = length s.sectors;
  marked = λ i. true;
  zeroed = λ i. true;
  sector = λ i. slice_index_or s.sectors i blank;
}

-- what an accepted call changes: nothing, all sectors to blank ones of a card with this number, or one sector
pub data Change : Type 0 where
  nothing : Change
  all_blank : List ℕ → Change
  one : ℕ → Sector → Change

abbrev pub change : View → Call → Change
change v (format number) = all_blank number
change v opening = nothing
change v (write s k t) = one s (holds k t)
change v (read s b) = nothing
change v (rekey s k) = one s (holds k (text_of (v.sector s)))
change v (copy s d) = one d (holds (key_of (v.sector s)) (text_of (v.sector s)))
change v (erase s) = one s blank

-- what a call answers: accepted or the fault, and what is then in its reading buffer
pub record Answer : Type 0 where
  pub outcome : Result (Unit {0}) Fault
  pub buffer : List ℕ

module _ {C : Type 0} (S : Sectors C) (ring : List C) (v : View) where
  -- the checks, each with the refusal where its sentence is true: 1 to 10 and 13
  abbrev pub ring_check : Check
  ring_check = not (nat_le 1 (length ring) && nat_le (length ring) most_keys) ⇒ RingSize

  abbrev pub length_check : Check
  length_check = not v.sized ⇒ ImageLength

  abbrev pub header_check : Check
  header_check = not v.headed ⇒ BadHeader

  abbrev pub sector_check : ℕ → Check
  sector_check s = leb v.count s ⇒ NoSector s

  abbrev pub key_check : ℕ → Check
  key_check k = leb (length ring) k ⇒ NoKey

  abbrev pub text_check : List ℕ → Check
  text_check t = not (length t == sector_length) ⇒ TextLength

  abbrev pub mark_check : ℕ → Check
  mark_check s = not (v.marked s) ⇒ BadMark s

  abbrev pub zero_check : ℕ → Check
  zero_check s = not (v.zeroed s) ⇒ BlankNotZero s

  abbrev pub blank_check : ℕ → Check
  blank_check s = is_blank (v.sector s) ⇒ BlankSector s

  abbrev pub number_check : List ℕ → Check
  number_check number = not (length number == S.width) ⇒ CardNumberLength

  -- the tweak of sector s is dead under key k
  abbrev pub dead_check : ℕ → ℕ → Check
  dead_check s k = dead_by S ring k v.number s ⇒ dead_sector s k

  -- the tweak of sector s is dead under its own key; a blank sector has none
  abbrev pub own_dead : ℕ → Sector → Bool
  own_dead s blank = false
  own_dead s (holds k t) = dead_by S ring k v.number s

  abbrev pub own_dead_check : ℕ → Check
  own_dead_check s = own_dead s (v.sector s) ⇒ dead_sector s (key_of (v.sector s))

  -- of the n sectors from s on, one after another
  abbrev pub sector_checks : ℕ → ℕ → List Check
  sector_checks s zero = []
  sector_checks s (suc n) = mark_check s ∷ zero_check s ∷ own_dead_check s ∷ sector_checks (suc s) n

  -- the checks of each call, in its own order
  abbrev pub checks : Call → List Check
  checks (format number) = length_check ∷ number_check number ∷ []
  checks opening = ring_check ∷ length_check ∷ header_check ∷ sector_checks 0 v.count
  checks (write s k t) = ring_check ∷ length_check ∷ header_check ∷ sector_check s ∷ key_check k ∷ text_check t ∷ dead_check s k ∷ []
  checks (read s b) = ring_check ∷ length_check ∷ header_check ∷ sector_check s ∷ text_check b ∷ mark_check s ∷ blank_check s ∷ own_dead_check s ∷ []
  checks (rekey s k) = ring_check ∷ length_check ∷ header_check ∷ sector_check s ∷ key_check k ∷ mark_check s ∷ blank_check s ∷ own_dead_check s ∷ dead_check s k ∷ []
  checks (copy s d) = ring_check ∷ length_check ∷ header_check ∷ sector_check s ∷ sector_check d ∷ mark_check s ∷ blank_check s ∷ own_dead_check s ∷ dead_check d (key_of (v.sector s)) ∷ []
  checks (erase s) = length_check ∷ header_check ∷ sector_check s ∷ []

  -- the first check whose sentence is true refuses
  abbrev pub outcome_of : Call → Result (Unit {0}) Fault
  outcome_of call = verdict (checks call)

  -- what is in a call's reading buffer after it: an accepted read leaves the sector's text there
  abbrev pub buffer_after : Call → List ℕ
  buffer_after (format number) = []
  buffer_after opening = []
  buffer_after (write s k t) = []
  buffer_after (read s b) = cond (is_ok (outcome_of (read s b))) (text_of (v.sector s)) b
  buffer_after (rekey s k) = []
  buffer_after (copy s d) = []
  buffer_after (erase s) = []

  abbrev pub answer : Call → Answer
  answer call = record { outcome = outcome_of call; buffer = buffer_after call }

-- a sheet with a change
abbrev pub sheet_with : Sheet → Change → Sheet
sheet_with s nothing = s
sheet_with s (all_blank number) = record { number = number; sectors = replicate (length s.sectors) blank }
sheet_with s (one i x) = record { number = s.number; sectors = slice_set s.sectors i x }

------------------------------------------------------------ The promise

module _ {C : Type 0} (S : Sectors C) (ring : List C) where
  -- what an accepted call does to the sheet; a refused one does nothing
  abbrev pub sheet_after : Sheet → Call → Sheet
  sheet_after s call = cond (is_ok (outcome_of S ring (sheet_view s) call)) (sheet_with s (change (sheet_view s) call)) s

  -- the sheet after a list of calls
  abbrev pub final_sheet : Sheet → List Call → Sheet
  final_sheet s [] = s
  final_sheet s (call ∷ more) = final_sheet (sheet_after s call) more

  -- what each call of a list answers, as the sheet before it decides
  abbrev pub decided : Sheet → List Call → List Answer
  decided s [] = []
  decided s (call ∷ more) = answer S ring (sheet_view s) call ∷ decided (sheet_after s call) more

  -- the sheet that the first call of a list gives: a format the blank one, an open the only one whose card the image is; no other call gives one
  abbrev pub Begins : List ℕ → Call → Sheet → Type 0
  Begins image (format number) s = s ≡ record { number = number; sectors = replicate (count_of S.width image) blank }
  Begins image opening s = IsCardOf S ring s image × ((t : Sheet) → IsCardOf S ring t image → t ≡ s)
  Begins image (write s k t) _ = ⊥
  Begins image (read s b) _ = ⊥
  Begins image (rekey s k) _ = ⊥
  Begins image (copy s d) _ = ⊥
  Begins image (erase s) _ = ⊥

  abbrev pub IsFormatOrOpen : Call → Type 0
  IsFormatOrOpen (format number) = Unit {0}
  IsFormatOrOpen opening = Unit {0}
  IsFormatOrOpen (write s k t) = ⊥
  IsFormatOrOpen (read s b) = ⊥
  IsFormatOrOpen (rekey s k) = ⊥
  IsFormatOrOpen (copy s d) = ⊥
  IsFormatOrOpen (erase s) = ⊥

  -- A list began on `image` with the call `first`, went on with `more`, left the image `after`, and its calls from the second on answered `answers`:
  -- `after` is the card of the sheet that the list makes, and the answers are what the sheet before each call decides.
  pub record Kept (image : List ℕ) (first : Call) (more : List Call) (after : List ℕ) (answers : List Answer) : Type 0 where
    pub sheet : Sheet
    pub begins : Begins image first sheet
    pub card : IsCardOf S ring (final_sheet sheet more) after
    pub answers_are : answers ≡ decided sheet more

  -- the promise of one list of calls, which holds where it begins with an accepted format or open
  abbrev pub KeepsSheet : List ℕ → List Call → List ℕ → List Answer → Type 0
  KeepsSheet image [] after answers = Unit {0}
  KeepsSheet image (first ∷ more) after [] = ⊥
  KeepsSheet image (first ∷ more) after (a ∷ answers) = IsFormatOrOpen first → is_ok a.outcome ≡ true → Kept image first more after answers

  -- Cards equal in size and number hold the same bytes exactly when their sheets agree in every sector.
  abbrev pub EqualCardsEqualSheets : Type 0
  EqualCardsEqualSheets =
      (s t : Sheet) (x y : List ℕ) → IsCardOf S ring s x → IsCardOf S ring t y → s.number ≡ t.number → length x ≡ length y
      → (x ≡ y) ↔ (s.sectors ≡ t.sectors)

  -- An image, open's outcome on it being r, is opened exactly when it is the card of some sheet, and then of one sheet only.
  pub record OpensExactlyCards (image : List ℕ) (r : Result (Unit {0}) Fault) : Type 0 where
    pub opened_if_card : (s : Sheet) → IsCardOf S ring s image → is_ok r ≡ true
    pub card_if_opened : is_ok r ≡ true → (s : Sheet) × IsCardOf S ring s image
    pub one_sheet : (s t : Sheet) → IsCardOf S ring s image → IsCardOf S ring t image → s ≡ t
