-- What the entry of a record says of its bytes, and when records lie inside an image.
use Rattle.std.specs.Prelude.{◌≡◌, ℕ, ◌+◌, ◌*◌, ◌<◌, ◌≤◌, true, false, List, length, drop, Ok, Err, Result, slice_index}
use Rattle.fault.specs.declared.Fault.{Fault}
use Rattle.fault.specs.declared.Fault.TheVariants.{BadMark}
use Rattle.layout.specs.declared.Entry.{Entry}
use Rattle.layout.specs.declared.Entry.TheVariants.{Blank, Sealed}
use Rattle.layout.specs.Layout.{is_blank_mark, is_key_mark, mark_length, most_sectors, count_of, record_start, header_length, record_length}

-- the record r, under a ring of so many keys, has this entry: blank by its mark, or sealed under the mark's key with the bytes behind the mark
abbrev pub ReadsEntry : List ℕ → ℕ → Entry → Type 0
ReadsEntry r keys Blank = is_blank_mark r ≡ true
ReadsEntry r keys (Sealed key bytes) = (is_blank_mark r ≡ false) × (is_key_mark keys r ≡ true) × (key ≡ slice_index r 1) × (bytes.now ≡ drop mark_length r)

-- the outcome of reading the record of sector s: its entry, or the refusal of a mark that is neither
abbrev pub Reads : List ℕ → ℕ → ℕ → Result Entry Fault → Type 0
Reads r keys s (Ok e) = ReadsEntry r keys e
Reads r keys s (Err f) = (is_blank_mark r ≡ false) × (is_key_mark keys r ≡ false) × (f ≡ BadMark s)

-- the image has exactly the length of a card with n sectors
pub record Fitting (w : ℕ) (image : List ℕ) (n : ℕ) : Type 0 where
  pub long : length image ≡ header_length w + record_length * n
  pub some : 1 ≤ n
  pub few : n ≤ most_sectors
  pub count : n ≡ count_of w image

-- the record of sector s lies inside the image
pub record Inside (w : ℕ) (image : List ℕ) (s : ℕ) : Type 0 where
  pub few : s < most_sectors
  pub ends : record_start w s + record_length ≤ length image
