-- What is left to show of `coefficient_at`.
use Rattle.std.proofs.Common.{◌/◌, ◌%◌, sym, refl, ◌∙◌, arith}
use Rattle.field.proofs.MaskAt as at
use Rattle.coefficient.proofs.coefficient_at.Goals as goal

pub returns-in-0 : goal.returns-in-0
returns-in-0 g c =
    let o = g.K.Block.ops in
    let φ = o.mul o.x in
    c.run_element.ensures ∙ at.at_none φ o.add o.one o.zero (c.args.m / 3) c.args.i
    ∙ at.at_rest φ o.add o.one o.zero c.args.m c.args.i 0 c.in-0.is

pub returns-in_default : goal.returns-in_default
returns-in_default g c =
    let o = g.K.Block.ops in
    let φ = o.mul o.x in
    at.at_head φ o.add o.one o.zero (c.args.m / 3) (c.args.m % 3) c.args.i c.head_element.result (omega arith) (omega arith) c.if-i-rest.true c.head_element.ensures.inner c.head_element.ensures.outer
    ∙ at.at_rest φ o.add o.one o.zero c.args.m c.args.i (c.args.m % 3) refl

pub returns-in_default-2 : goal.returns-in_default-2
returns-in_default-2 g c =
    let o = g.K.Block.ops in
    let φ = o.mul o.x in
    c.run_element-in_default-2.ensures ∙ sym (at.after_head φ o.add o.one o.zero (c.args.m / 3) (c.args.m % 3) c.args.i (omega arith) (omega arith) c.if-i-rest.false (omega arith))
    ∙ at.at_rest φ o.add o.one o.zero c.args.m c.args.i (c.args.m % 3) refl
