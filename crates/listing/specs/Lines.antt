-- The lines of a card's manifest, byte by byte.
use Rattle.std.specs.Prelude.{ℕ, suc, cond, List, [], ◌∷◌, ◌++◌, length, Ok, Err, codes, decimal, Result, nat_lt}
use Rattle.fault.specs.declared.Fault.{Fault}
use Rattle.fault.specs.declared.Fault.TheVariants.{ImageLength}
use Rattle.fault.specs.Faults.{fault_number, fault_sector, named}
use Rattle.layout.specs.Layout.{count_of}
use Rattle.walk.specs.Contents.{Content, blank, sealed, Outcome, walk_of}

-- a manifest is made of an image of at most so many bytes
abbrev pub longest_image : ℕ
longest_image = 65536

-- 'card 16 sectors 2': the block length and the number of sectors
abbrev pub card_line : ℕ → ℕ → List ℕ
card_line w n = codes "card " ++ (decimal w ++ (codes " sectors " ++ (decimal n ++ codes "\n")))

-- '0 blank' or '1 key 3': the sector, and what it holds
abbrev pub sector_line : ℕ → Content → List ℕ
sector_line s blank = decimal s ++ codes " blank\n"
sector_line s (sealed key bytes) = decimal s ++ (codes " key " ++ (decimal key ++ codes "\n"))

-- 'refused 2' or 'refused 8 1': the number, and the sector where the refusal names one (a walk's refusals are 2 and 3, which do not, and 7 and 8, which do)
abbrev pub refusal_line : Fault → List ℕ
refusal_line f = codes "refused " ++ (decimal (fault_number f) ++ (named (codes " ") (fault_sector f) ++ codes "\n"))

-- the text so far with a line for each sector from s on; a refusal's line stands alone, in place of all others
abbrev pub listed : List ℕ → ℕ → List Outcome → List ℕ
listed text s [] = text
listed text s (Ok x ∷ rest) = listed (text ++ sector_line s x) (suc s) rest
listed text s (Err f ∷ rest) = refusal_line f

-- the lines of a walk
abbrev pub walk_lines : ℕ → ℕ → Result (List Outcome) Fault → List ℕ
walk_lines w n (Ok outcomes) = listed (card_line w n) 0 outcomes
walk_lines w n (Err f) = refusal_line f

-- the manifest of an image with blocks of w bytes: too long an image is refused before anything else is looked at
abbrev pub manifest_of : ℕ → List ℕ → List ℕ
manifest_of w image = cond (nat_lt longest_image (length image)) (refusal_line ImageLength) (walk_lines w (count_of w image) (walk_of w image))
