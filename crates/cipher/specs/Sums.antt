-- What the laws of a kind give of sums.
use Rattle.std.specs.Prelude.{◌≡◌}
use Rattle.std.proofs.Common.{ap, ◌∙◌}
use Rattle.kind.specs.Laws.{Ops, Laws}

module _ {K : Type 0} (o : Ops K) (laws : Laws o) where
  pub sum_back : (a b : K) → o.add (o.add a b) b ≡ a
  sum_back a b = laws.add_assoc a b b ∙ ap (o.add a) (laws.add_self b) ∙ laws.add_zero a

  -- g undoes f, so the whitened g undoes the whitened f
  pub whitened_back : (f g : K → K) → ((b : K) → g (f b) ≡ b) → (a c b : K)
      → o.add (g (o.add (o.add (f (o.add b a)) c) c)) a ≡ b
  whitened_back f g u a c b =
      ap (λ z. o.add (g z) a) (sum_back (f (o.add b a)) c) ∙ ap (λ z. o.add z a) (u (o.add b a)) ∙ sum_back b a
