-- The calls on the bytes of an image, opened or not: what a call sees there, and what it leaves.
use Rattle.std.specs.Prelude.{◌≡◌, ℕ, Bool, cond, not, ◌||◌, List, [], ◌∷◌, length, drop, is_ok, Result, slice_index}
use Rattle.fault.specs.declared.Fault.{Fault}
use Rattle.kind.specs.Laws.{Bytes}
use Rattle.layout.specs.Layout.{mark_length, blank_card, count_of, is_sized, is_headed, card_number_of, record_at, put_record, is_blank_mark, is_key_mark, zeros}
use Rattle.sheet.specs.Sectors.{Sectors}
use Rattle.sheet.specs.Promise.{Sector, blank, holds, Call, format, opening, write, read, rekey, copy, erase, View, Change, nothing, all_blank, one, change, Answer, answer, outcome_of, buffer_after, unsealed_by, record_of}

module _ {C : Type 0} (S : Sectors C) (ring : List C) where
  -- the mark of a key on the ring
  abbrev pub is_own_mark : List ℕ → Bool
  is_own_mark r = is_key_mark (length ring) r

  -- what the record of sector s says
  abbrev pub sector_of : List ℕ → ℕ → List ℕ → Sector
  sector_of number s r = cond (is_blank_mark r) blank (holds (slice_index r 1) (unsealed_by S ring (slice_index r 1) number s (drop mark_length r)))

  abbrev pub image_view : List ℕ → View
  image_view image = record {
    sized = is_sized S.width image;
    headed = is_headed S.width image;
    number = card_number_of S.width image;
    count = count_of S.width image;
    marked = λ s. is_blank_mark (record_at S.width image s) || is_own_mark (record_at S.width image s);
    zeroed = λ s. not (is_blank_mark (record_at S.width image s)) || zeros (drop mark_length (record_at S.width image s));
    sector = λ s. sector_of (card_number_of S.width image) s (record_at S.width image s);
  }

  -- an image with a change: the whole is written, or the one record
  abbrev pub image_with : List ℕ → Change → List ℕ
  image_with image nothing = image
  image_with image (all_blank number) = blank_card S.width number image
  image_with image (one s x) = put_record S.width image s (record_of S ring (card_number_of S.width image) s x)

  -- what a call answers on an image
  abbrev pub outcome_on : List ℕ → Call → Result (Unit {0}) Fault
  outcome_on image call = outcome_of S ring (image_view image) call

  abbrev pub answer_on : List ℕ → Call → Answer
  answer_on image call = answer S ring (image_view image) call

  -- the image after a call: every byte outside what an accepted call changes is as before, and a refused one changes nothing
  abbrev pub image_after : List ℕ → Call → List ℕ
  image_after image call = cond (is_ok (outcome_on image call)) (image_with image (change (image_view image) call)) image

  -- lists of calls
  abbrev pub final_image : List ℕ → List Call → List ℕ
  final_image image [] = image
  final_image image (call ∷ more) = final_image (image_after image call) more

  abbrev pub answers_on : List ℕ → List Call → List Answer
  answers_on image [] = []
  answers_on image (call ∷ more) = answer_on image call ∷ answers_on (image_after image call) more

  -- A call on `image` answered r and left the image `after`: both are as the rules decide.
  pub record Acts (image : List ℕ) (call : Call) (r : Result (Unit {0}) Fault) (after : List ℕ) : Type 0 where
    pub outcome : r ≡ outcome_on image call
    pub image_is : after ≡ image_after image call

  -- A read of sector s on `image` with a buffer answered r and left it as `after`.
  pub record ReadsText (image : List ℕ) (s : ℕ) (buffer : List ℕ) (r : Result (Unit {0}) Fault) (after : List ℕ) : Type 0 where
    pub outcome : r ≡ outcome_on image (read s buffer)
    pub buffer_is : after ≡ buffer_after S ring (image_view image) (read s buffer)

-- what a call is given are bytes
abbrev pub Given : Call → Type 0
Given (format number) = Bytes number
Given opening = Unit {0}
Given (write s k t) = Bytes t
Given (read s b) = Bytes b
Given (rekey s k) = Unit {0}
Given (copy s d) = Unit {0}
Given (erase s) = Unit {0}

abbrev pub AllGiven : List Call → Type 0
AllGiven [] = Unit {0}
AllGiven (call ∷ more) = Given call × AllGiven more
