-- What the exports on cards answer and leave.
use Rattle.std.specs.Prelude.{◌≡◌, ℕ, ◌<◌, ◌≤◌, List, map, length}
use Rattle.fault.specs.declared.Fault.TheVariants.{RingSize}
use Rattle.sheet.specs.Sectors.{Sectors}
use Rattle.sheet.specs.Promise.{Call, read, buffer_after}
use Rattle.sheet.specs.Images.{outcome_on, image_after, image_view}
use Rattle.capi.specs.declared.outcome.Outcome.{Outcome}
use Rattle.capi.specs.Outcomes.{outcome, refused}

module _ {C : Type 0} (S : Sectors C) (ring : List C) (image : List ℕ) where
  -- a call on an image answers o and leaves the image `after`, as the rules decide
  pub record Acted (call : Call) (o : Outcome) (after : List ℕ) : Type 0 where
    pub outcome_is : o ≡ outcome (outcome_on S ring image call)
    pub image_is : after ≡ image_after S ring image call

  -- a read answers o and leaves the buffer `after`, as the rules decide
  pub record WasRead (s : ℕ) (buffer : List ℕ) (o : Outcome) (after : List ℕ) : Type 0 where
    pub outcome_is : o ≡ outcome (outcome_on S ring image (read s buffer))
    pub buffer_is : after ≡ buffer_after S ring (image_view S ring image) (read s buffer)

-- A ring given as keys: `parts` is what a cipher holds and `made` what a key gives it. With up to eight keys the ciphers of the
-- keys, in their order, satisfy P; with more the ring is refused and `left` holds.
pub record OnRing {C D K : Type 0} (parts : C → D) (made : K → D) (keys : List K) (P : List C → Type 0) (o : Outcome) (left : Type 0) : Type 0 where
  pub few : length keys ≤ 8 → (ring : List C) × (map parts ring ≡ map made keys) × P ring
  pub many : 8 < length keys → (o ≡ refused RingSize) × left
