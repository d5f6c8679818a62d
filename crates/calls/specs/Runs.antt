-- A list of calls as the code holds it, read as the calls and answers of sheet's promise.
use Rattle.std.specs.Prelude.{◌≡◌, ℕ, List, [], ◌∷◌, vec_items, Result}
use Rattle.fault.specs.declared.Fault.{Fault}
use Rattle.sheet.specs.Sectors.{Sectors}
use Rattle.sheet.specs.Promise.{Call, format, opening, write, read, rekey, copy, erase, Answer}
use Rattle.sheet.specs.Images.{Given, answer_on, image_after}
use Rattle.calls.specs.declared.step.Call.{Call as CodeCall}
use Rattle.calls.specs.declared.step.Call.TheVariants.{Format, Open, Write, Read, Rekey, Copy, Erase}
use Rattle.calls.specs.declared.step.Step.{Step}

-- a call of the code
abbrev pub call_of : CodeCall → Call
call_of (Format number) = format (vec_items number)
call_of Open = opening
call_of (Write s k t) = write s k (vec_items t)
call_of (Read s b) = read s (vec_items b)
call_of (Rekey s k) = rekey s k
call_of (Copy s d) = copy s d
call_of (Erase s) = erase s

-- the calls of a list
abbrev pub calls_of : List Step → List Call
calls_of [] = []
calls_of (s ∷ ss) = call_of s.call ∷ calls_of ss

-- what is in a call's reading buffer
abbrev pub buffer_of : Call → List ℕ
buffer_of (format number) = []
buffer_of opening = []
buffer_of (write s k t) = []
buffer_of (read s b) = b
buffer_of (rekey s k) = []
buffer_of (copy s d) = []
buffer_of (erase s) = []

-- a call that was made, with its outcome, as an answer
abbrev pub answered : Call → Result (Unit {0}) Fault → Answer
answered call r = record { outcome = r; buffer = buffer_of call }

-- the answers that a list holds after it was run
abbrev pub answers_of : List Step → List Answer
answers_of [] = []
answers_of (s ∷ ss) = answered (call_of s.call) s.outcome ∷ answers_of ss

-- a call but for what is in its reading buffer
abbrev pub asked : Call → Call
asked (format number) = format number
asked opening = opening
asked (write s k t) = write s k t
asked (read s b) = read s []
asked (rekey s k) = rekey s k
asked (copy s d) = copy s d
asked (erase s) = erase s

abbrev pub all_asked : List Step → List Call
all_asked [] = []
all_asked (s ∷ ss) = asked (call_of s.call) ∷ all_asked ss

-- One call of a list was made on `image`: it answered r, and left the image `after` and itself as `call'`, with only the reading buffer changed.
pub record Made {C : Type 0} (S : Sectors C) (ring : List C) (image : List ℕ) (call : CodeCall) (r : Result (Unit {0}) Fault) (after : List ℕ) (call' : CodeCall) : Type 0 where
  pub given : Given (call_of call)
  pub answer_is : answered (call_of call') r ≡ answer_on S ring image (call_of call)
  pub image_is : after ≡ image_after S ring image (call_of call)
  pub unchanged : asked (call_of call') ≡ asked (call_of call)
