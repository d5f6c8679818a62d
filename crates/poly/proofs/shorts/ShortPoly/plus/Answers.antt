-- What is left to show of `plus`.
use lib.Bits.{xor_lt}
use Rattle.poly.proofs.shorts.ShortPoly.plus.Goals as goal

pub invariant_of-result : goal.invariant_of-result
invariant_of-result c = record { fits = xor_lt 64 c.args.self.word c.args.other.word c.args.self.fits c.args.other.fits }
