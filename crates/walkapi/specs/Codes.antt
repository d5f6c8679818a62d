-- A walk as C sees it: its outcome, and a number for each sector.
use Rattle.std.specs.Prelude.{ℕ, ◌+◌, cond, List, [], ◌∷◌, length, is_ok, Ok, Err, Result, nat_lt, slice_set}
use Rattle.fault.specs.declared.Fault.{Fault}
use Rattle.walk.specs.Contents.{Content, blank, sealed, Outcome}

-- the number of a sector: its key number, or 255 where it is blank
abbrev pub code : Content → ℕ
code blank = 255
code (sealed key bytes) = key

-- the first refusal of a walk, or none
abbrev pub first_refusal : List Outcome → Result (Unit {0}) Fault
first_refusal [] = Ok tt
first_refusal (Ok x ∷ more) = first_refusal more
first_refusal (Err f ∷ more) = Err f

-- the number of sector s is put in its place, where there is one
abbrev pub note : ℕ → List ℕ → Outcome → List ℕ
note s codes (Ok x) = cond (nat_lt s (length codes)) (slice_set codes s (code x)) codes
note s codes (Err f) = codes

-- the numbers of the sectors from s on
abbrev pub noted : ℕ → List ℕ → List Outcome → List ℕ
noted s codes [] = codes
noted s codes (o ∷ more) = noted (s + 1) (note s codes o) more

abbrev pub verdict : Result (List Outcome) Fault → Result (Unit {0}) Fault
verdict (Ok outcomes) = first_refusal outcomes
verdict (Err f) = Err f

abbrev pub all_noted : List ℕ → Result (List Outcome) Fault → List ℕ
all_noted codes (Ok outcomes) = noted 0 codes outcomes
all_noted codes (Err f) = codes

-- what a walk leaves of the numbers: a refusal leaves all
abbrev pub codes_after : List ℕ → Result (List Outcome) Fault → List ℕ
codes_after codes walk = cond (is_ok (verdict walk)) (all_noted codes walk) codes
