-- The checks that a call has passed when it comes to the sector's record.
use Rattle.std.proofs.Common.{◌≡◌, ℕ, ◌<◌, eqb, List, [], ◌∷◌, ◌++◌, length, Ok, sym, ◌∙◌, ap, arith}
use Rattle.std.proofs.lemmas.Bool.{leb-false, eq-eqb, not_from_true}
use Rattle.layout.specs.Checks.{Check, ruled, verdict}
use Rattle.layout.specs.Layout.{sector_length}
use Rattle.layout.specs.Entries.{Fitting, Inside}
use Rattle.layout.proofs.Verdicts.{Passed, ruled_ok, ruled_all}
use Rattle.sheet.specs.Sectors.{Sectors}
use Rattle.sheet.specs.Promise.{Call, checks, sector_check, text_check}
use Rattle.sheet.specs.Images.{image_view, outcome_on}

pub passed : {A : Type 0} (cs : List Check) (x y : A) → Ok y ≡ ruled cs x → Passed cs
passed cs x y h = (ruled_ok cs x y (sym h)).0

pub both : (cs ds : List Check) → Passed cs → Passed ds → Passed (cs ++ ds)
both [] ds p q = q
both (c ∷ cs) ds p q = (p.0, both cs ds p.1 q)

module _ {C : Type 0} (S : Sectors C) (ring : List C) (image : List ℕ) where
  -- no check of a call refuses
  pub accepted : (call : Call) (cs : List Check) → checks S ring (image_view S ring image) call ≡ cs → Passed cs → outcome_on S ring image call ≡ Ok tt
  accepted call cs e p = ap verdict e ∙ ruled_all cs tt p

  pub text_passes : (t : List ℕ) → length t ≡ sector_length → Passed (text_check S ring (image_view S ring image) t ∷ [])
  text_passes t e = (not_from_true (eqb (length t) sector_length) (eq-eqb (length t) sector_length e), tt)

  -- the record of a sector that the card has lies inside the image
  pub inside : (n s : ℕ) → Fitting S.width image n → Passed (sector_check S ring (image_view S ring image) s ∷ []) → Inside S.width image s
  inside n s fits p =
      let l : s < n = omega (arith, leb-false _ s p.0, fits.count) in
      record { few = omega (arith, fits.few); ends = omega (arith, fits.long) }
