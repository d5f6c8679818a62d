-- The bytes of a card image whose blocks have w bytes: a header, then one record for each sector.
-- Every number of the layout is defined here, once.
use Rattle.std.specs.Prelude.{ℕ, ◌+◌, ◌-◌, ◌*◌, ◌/◌, Bool, true, not, ◌&&◌, List, [], ◌∷◌, ◌++◌, length, take, drop, replicate, ◌==◌, nat_le, nat_lt, slice_index}
use Rattle.std.specs.Simd.{first_chunks}
use borrow.Rule.Slice.PartMut.{put_mid}
use Rattle.fault.specs.declared.Fault.TheVariants.{ImageLength, BadHeader}
use Rattle.layout.specs.Checks.{Check, ◌⇒◌}

-- the bytes of a sector
abbrev pub sector_length : ℕ
sector_length = 512

-- a record's mark: two bytes that say whether the sector is blank or which key seals it
abbrev pub mark_length : ℕ
mark_length = 2

-- a record is a mark and a sector
abbrev pub record_length : ℕ
record_length = mark_length + sector_length

-- a card has 1 to 65,535 sectors
abbrev pub most_sectors : ℕ
most_sectors = 65535

-- a ring has 1 to 8 keys
abbrev pub most_keys : ℕ
most_keys = 8

-- the first byte of every card, 43 hex
abbrev pub magic : ℕ
magic = 67

-- the second byte of a card: which kind of block it is for
abbrev pub kind_code : ℕ → ℕ
kind_code w = w

-- the card number stands behind these two bytes
abbrev pub number_start : ℕ
number_start = 2

-- the header: the magic byte, the kind's code, the card number
abbrev pub header_length : ℕ → ℕ
header_length w = number_start + w

abbrev pub header_of : ℕ → List ℕ → List ℕ
header_of w number = magic ∷ (kind_code w ∷ number)

-- the mark of a blank record, 00 00
abbrev pub blank_mark : List ℕ
blank_mark = 0 ∷ (0 ∷ [])

-- the first byte of a sealed record's mark, 4B hex; the second is the key number
abbrev pub sealed_tag : ℕ
sealed_tag = 75

abbrev pub sealed_mark : ℕ → List ℕ
sealed_mark key = sealed_tag ∷ (key ∷ [])

-- how many records an image has room for behind its header
abbrev pub count_of : ℕ → List ℕ → ℕ
count_of w image = (length image - header_length w) / record_length

-- the image is a header and a lawful number of whole records long
abbrev pub is_sized : ℕ → List ℕ → Bool
is_sized w image = length image == header_length w + record_length * count_of w image && (nat_le 1 (count_of w image) && nat_le (count_of w image) most_sectors)

-- the image begins as a card for this kind does
abbrev pub is_headed : ℕ → List ℕ → Bool
is_headed w image = slice_index image 0 == magic && slice_index image 1 == kind_code w

-- what every call but format checks of an image: its length, then its beginning
abbrev pub head_checks : ℕ → List ℕ → List Check
head_checks w image = (not (is_sized w image) ⇒ ImageLength) ∷ ((not (is_headed w image) ⇒ BadHeader) ∷ [])

-- the card number of an image
abbrev pub card_number_of : ℕ → List ℕ → List ℕ
card_number_of w image = take w (drop number_start image)

-- where the record of sector s begins; sectors count from 0
abbrev pub record_start : ℕ → ℕ → ℕ
record_start w s = header_length w + record_length * s

-- the record of sector s
abbrev pub record_at : ℕ → List ℕ → ℕ → List ℕ
record_at w image s = take record_length (drop (record_start w s) image)

-- the records of an image, in the order of their sectors
abbrev pub records_of : ℕ → List ℕ → List (List ℕ)
records_of w image = first_chunks record_length (count_of w image) (drop (header_length w) image)

-- the image with the record of sector s written anew
abbrev pub put_record : ℕ → List ℕ → ℕ → List ℕ → List ℕ
put_record w image s r = put_mid (record_start w s) record_length image r

-- the record has the mark of a blank one
abbrev pub is_blank_mark : List ℕ → Bool
is_blank_mark r = slice_index r 0 == slice_index blank_mark 0 && slice_index r 1 == slice_index blank_mark 1

-- the record has the mark of a sealed one with a key number below keys
abbrev pub is_key_mark : ℕ → List ℕ → Bool
is_key_mark keys r = slice_index r 0 == sealed_tag && nat_lt (slice_index r 1) keys

-- all bytes are zero
abbrev pub zeros : List ℕ → Bool
zeros [] = true
zeros (x ∷ xs) = x == 0 && zeros xs

-- the card with this number and only blank sectors, as long as the image
abbrev pub blank_card : ℕ → List ℕ → List ℕ → List ℕ
blank_card w number image = header_of w number ++ replicate (record_length * count_of w image) 0
