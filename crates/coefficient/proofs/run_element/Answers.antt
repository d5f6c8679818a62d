-- What is left to show of `run_element`.
use Rattle.std.proofs.Common.{ℕ, ◌+◌, ◌*◌, sym, ap, ◌∙◌, ap₂, arith}
use Rattle.field.specs.Mask.{times}
use Rattle.field.proofs.MaskAt as at
use Rattle.field.proofs.MaskSum as masks
use Rattle.coefficient.proofs.run_element.Goals as goal

pub returns-in-None : goal.returns-in-None
returns-in-None g c =
    let o = g.K.Block.ops in
    let φ = o.mul o.x in
    c.power.ensures ∙ at.times_add φ c.args.s (c.args.i + 1) o.one
    ∙ ap (times φ c.args.s) (sym (at.at_run_low φ o.add o.one o.zero c.args.t c.args.i (omega (arith, c.in-None.ensures))))

pub returns-in-Some : goal.returns-in-Some
returns-in-Some g c =
    let o = g.K.Block.ops in
    let φ = o.mul o.x in
    let l = g.met.K.Block.laws in
    let j : ℕ = c.in-Some.j in
    c.add.ensures
    ∙ ap₂ o.add (c.power-in-Some.ensures ∙ at.times_add φ c.args.s (2 * j + 1) o.one) (c.power-in-Some-2.ensures ∙ at.times_add φ c.args.s (2 * j + 2) o.one)
    ∙ sym (masks.times_linear o.add o.zero φ l.add_assoc (λ a. l.add_comm o.zero a ∙ l.add_zero a) l.add_self (l.distrib o.x) c.args.s (times φ (2 * j + 1) o.one) (times φ (2 * j + 2) o.one))
    ∙ ap (times φ c.args.s) (sym (at.at_run_high φ o.add o.one o.zero c.args.t c.args.i j (omega (arith, c.in-Some.ensures)) c.requires.1.0))
