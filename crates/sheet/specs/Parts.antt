-- Parts of the calls' lists of checks that several calls share.
use Rattle.std.specs.Prelude.{ℕ, List, [], ◌∷◌}
use Rattle.layout.specs.Checks.{Check}
use Rattle.sheet.specs.Sectors.{Sectors}
use Rattle.sheet.specs.Promise.{View, ring_check, length_check, header_check, mark_check, blank_check, own_dead_check}

module _ {C : Type 0} (S : Sectors C) (ring : List C) (v : View) where
  -- 2 and 3
  abbrev pub image_checks : List Check
  image_checks = length_check S ring v ∷ header_check S ring v ∷ []

  -- 1 to 3
  abbrev pub ring_and_image_checks : List Check
  ring_and_image_checks = ring_check S ring v ∷ image_checks

  -- 7, 9 and 13 for the sector to read, rekey or copy from
  abbrev pub source_checks : ℕ → List Check
  source_checks s = mark_check S ring v s ∷ blank_check S ring v s ∷ own_dead_check S ring v s ∷ []
