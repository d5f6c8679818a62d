-- What is left to show of `raised`.
use mathlib.Core.Path.{sym, subst}
use Prim.Native.Nat.{ℕ, ◌<◌, ◌^◌}
use lib.Dec.{lit<}
use Rattle.field.proofs.Raised.{raised64}
use Rattle.field.proofs.Window.{raise_lt}
use Rattle.poly.proofs.shorts.ShortPoly.raised.Goals as goal

pub invariant_of-result : goal.invariant_of-result
invariant_of-result c = record {
  fits = subst (λ (x : ℕ). x < 2 ^ 64) (sym (raised64 c.args.self.word c.args.self.fits)) (raise_lt 64 0x1b (lit< tt) 8 c.args.self.word c.args.self.fits);
}

pub returns : goal.returns
returns c = raised64 c.args.self.word c.args.self.fits
