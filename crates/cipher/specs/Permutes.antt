-- Maps that neither join blocks nor leave one out.
use Rattle.std.specs.Prelude.{◌≡◌}

-- f sends different blocks to different blocks, and some block to each
pub record Permutes {K : Type 0} (f : K → K) : Type 0 where
  pub apart : (a b : K) → f a ≡ f b → a ≡ b
  pub reaches : (b : K) → (a : K) × (f a ≡ b)
