-- What is left of the list gives what the whole list gives.
use Rattle.std.proofs.Common.{◌≡◌, ◌++◌, take, drop}
use Rattle.sector.specs.Rings.{ciphers_of}
use Rattle.sheet.specs.Sectors.{sectors}
use Rattle.sheet.specs.Images.{answers_on, final_image, AllGiven}
use Rattle.calls.specs.Runs.{calls_of, answers_of, all_asked}
use Rattle.calls.proofs.run.Given as goal

abbrev pub invariant-loop-step : goal.invariant-loop-step
invariant-loop-step g l =
    let S = sectors g.C.Block.Block.ops g.C.Cipher.enc g.C.Cipher.dec in
    let ring = ciphers_of l.ring in
    let left = drop l.step-index l.steps in
    (final_image S ring l.image (calls_of left) ≡ final_image S ring l.initial.image (calls_of l.initial.steps))
    × (answers_of (take l.step-index l.steps) ++ answers_on S ring l.image (calls_of left) ≡ answers_on S ring l.initial.image (calls_of l.initial.steps))
    × (AllGiven (calls_of left) → AllGiven (calls_of l.initial.steps))
    × (all_asked l.steps ≡ all_asked l.initial.steps)
