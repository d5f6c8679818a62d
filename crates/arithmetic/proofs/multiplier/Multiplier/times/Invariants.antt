-- What the loop of `times` keeps.
use Rattle.std.proofs.Common.{◌≡◌, ◌-◌, ◌*◌, ◌/◌, ◌%◌, ◌^◌}
use Rattle.field.specs.Field.{mul}
use Rattle.arithmetic.proofs.multiplier.Multiplier.times.Given as goal

abbrev pub invariant-loop : goal.invariant-loop
invariant-loop g l =
    let p = g.P.Poly in
    (p.value l.sum ≡ mul p.width p.modulus (p.value l.initial.rest / 2 ^ (p.width - l.counter * 8)) (p.value l.self.of))
    × (p.value l.rest ≡ p.value l.initial.rest * 2 ^ (l.counter * 8) % 2 ^ p.width)
