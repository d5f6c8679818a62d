-- What is left to show of `zeros`.
use Rattle.poly.proofs.Zeros.{zeros_low, zeros_high}
use Rattle.poly.proofs.wides.WidePoly.zeros.Goals as goal

pub returns-then-self-eq0 : goal.returns-then-self-eq0
returns-then-self-eq0 c = zeros_low c.args.self.high c.args.self.low c.if-self-eq0.true c.args.self.lowfits

pub returns-else-self-eq0 : goal.returns-else-self-eq0
returns-else-self-eq0 c = zeros_high c.args.self.high c.args.self.low c.if-self-eq0.false c.args.self.highfits c.args.self.lowfits
