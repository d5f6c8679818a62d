-- What the loop of `power` keeps.
use Rattle.std.proofs.Common.{◌≡◌}
use Rattle.field.specs.Mask.{times}
use Rattle.coefficient.proofs.power.Given as goal

abbrev pub invariant-loop : goal.invariant-loop
invariant-loop g l = let o = g.K.Block.ops in l.power ≡ times (o.mul o.x) l.counter o.one
