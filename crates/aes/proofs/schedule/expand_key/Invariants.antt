-- What holds at each turn of the loops of `aes::schedule::expand_key`.
use Rattle.std.proofs.Common.{◌≡◌, ◌-◌, ◌*◌, length, take}
use Rattle.aes.specs.Keys.{expanded}
use Rattle.aes.proofs.schedule.expand_key.Given as goal

abbrev pub invariant-loop-i : goal.invariant-loop-i
invariant-loop-i l = (length l.w ≡ 176) × (take (4 * l.i) l.w ≡ expanded l.key (l.i - 4))
