-- The bytes so far are spelled by the pairs so far.
use Rattle.std.proofs.Common.{◌≡◌, ℕ, ◌<◌, [], length, get_or, Some}
use Rattle.script.specs.Hex.{byte_at}
use Rattle.script.proofs.hex.from_hex.Given as goal

abbrev pub invariant-loop-pair : goal.invariant-loop-pair
invariant-loop-pair l =
    (length l.bytes.items ≡ l.pair-index)
    × ((k : ℕ) → k < l.pair-index → byte_at (get_or l.pairs k []) 0 ≡ Some (get_or l.bytes.items k 0))
