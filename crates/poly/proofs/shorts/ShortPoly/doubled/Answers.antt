-- What is left to show of `doubled`.
use mathlib.Core.Path.{sym, subst}
use Prim.Native.Nat.{ℕ, ◌<◌, ◌^◌}
use lib.Dec.{lit<}
use Rattle.field.proofs.Ring as ring
use Rattle.field.proofs.Steps.{branchless}
use Rattle.poly.proofs.shorts.ShortPoly.doubled.Goals as goal

pub invariant_of-result : goal.invariant_of-result
invariant_of-result c = record {
  fits = subst (λ (x : ℕ). x < 2 ^ 64) (sym (branchless 64 0x1b c.args.self.word (lit< tt) c.args.self.fits)) (ring.times_x_lt 64 0x1b (lit< tt) c.args.self.word);
}

pub returns : goal.returns
returns c = branchless 64 0x1b c.args.self.word (lit< tt) c.args.self.fits
