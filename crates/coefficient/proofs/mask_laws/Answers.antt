-- What is left to show of `mask_laws`.
use Rattle.std.proofs.Common.{◌∙◌}
use Rattle.field.proofs.Laws.{count}
use Rattle.field.proofs.MaskSum.{coefficients_zero}
use Rattle.coefficient.proofs.mask_laws.Goals as goal

pub returns : goal.returns
returns g c =
    let o = g.K.Block.ops in
    let l = g.met.K.Block.laws in
    record {
      count = count o.add (o.mul o.x) o.one;
      sum = λ m h. coefficients_zero o.add o.zero (o.mul o.x) l.add_assoc (λ a. l.add_comm o.zero a ∙ l.add_zero a) l.add_self (l.distrib o.x) o.one m;
      apart = l.masks;
    }
