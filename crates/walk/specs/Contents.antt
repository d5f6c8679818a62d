-- What the walk gives for a card image: the rules, on lists of bytes.
use Rattle.std.specs.Prelude.{ℕ, zero, suc, ◌+◌, ◌*◌, cond, not, ◌&&◌, ◌||◌, List, [], ◌∷◌, take, drop, Ok, Err, Result, slice_index}
use Rattle.fault.specs.declared.Fault.{Fault}
use Rattle.fault.specs.declared.Fault.TheVariants.{BlankNotZero, BadMark}
use Rattle.layout.specs.Checks.{Check, ◌⇒◌, ruled}
use Rattle.layout.specs.Layout.{mark_length, record_length, header_length, most_keys, is_blank_mark, is_key_mark, zeros, count_of, head_checks}

-- what a record holds: nothing, or a key number and the sealed bytes
pub data Content : Type 0 where
  blank : Content
  sealed : ℕ → List ℕ → Content

-- what the walk checks at the record r of sector s: its mark, as for a ring of eight, and that a blank record is all zero
abbrev pub record_checks : List ℕ → ℕ → List Check
record_checks r s = (not (is_blank_mark r || is_key_mark most_keys r) ⇒ BadMark s) ∷ ((is_blank_mark r && not (zeros (drop mark_length r)) ⇒ BlankNotZero s) ∷ [])

abbrev pub content : List ℕ → Content
content r = cond (is_blank_mark r) blank (sealed (slice_index r 1) (drop mark_length r))

-- what comes of one record: its content or a refusal
abbrev pub Outcome : Type 0
Outcome = Result Content Fault

abbrev pub outcome_of : List ℕ → ℕ → Outcome
outcome_of r s = ruled (record_checks r s) (content r)

-- an outcome and those after it: a refusal is the last
abbrev pub on : Outcome → List Outcome → List Outcome
on (Ok x) rest = Ok x ∷ rest
on (Err f) rest = Err f ∷ []

-- what comes of these records, the first of which is that of sector s, in order, up to the first refusal
abbrev pub walk_on : ℕ → List (List ℕ) → List Outcome
walk_on s [] = []
walk_on s (r ∷ rs) = on (outcome_of r s) (walk_on (s + 1) rs)

-- the record of sector s of an image whose records begin at start
abbrev pub record_from : ℕ → List ℕ → ℕ → List ℕ
record_from start image s = take record_length (drop (start + record_length * s) image)

-- what comes of the n records from sector s on, in order, up to the first refusal
abbrev pub walk_from : ℕ → List ℕ → ℕ → ℕ → List Outcome
walk_from start image s zero = []
walk_from start image s (suc n) = on (outcome_of (record_from start image s) s) (walk_from start image (suc s) n)

-- the whole walk of an image with blocks of w bytes: refused by its length or its beginning, or else every record behind the header, from sector 0 on
abbrev pub walk_of : ℕ → List ℕ → Result (List Outcome) Fault
walk_of w image = ruled (head_checks w image) (walk_from (header_length w) image 0 (count_of w image))
