-- What the loop of `multiples` keeps.
use Rattle.std.proofs.Common.{◌≡◌, ℕ, ◌*◌, ◌<◌, length, get_or}
use Rattle.field.specs.Field.{mul}
use Rattle.arithmetic.proofs.multiplier.multiples.Given as goal

abbrev pub invariant-loop-i : goal.invariant-loop-i
invariant-loop-i g l =
    let p = g.P.Poly in
    (length l.all ≡ 16)
    × ((k : ℕ) (d : g.row.P.Denot) → k < 2 * l.i → p.value (get_or l.all k d) ≡ mul p.width p.modulus k (p.value l.b))
