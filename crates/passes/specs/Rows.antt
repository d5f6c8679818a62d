-- Powers, sums and rows of blocks.
use Rattle.std.specs.Prelude.{ℕ, zero, suc, List, [], ◌∷◌}
use Rattle.kind.specs.Laws.{Ops}
use Rattle.kind.specs.Blocks.{blocks, flat}

module _ {K : Type 0} (F : Ops K) where
  -- a to the power n
  abbrev pub pow : K → ℕ → K
  pow a zero = F.one
  pow a (suc n) = F.mul a (pow a n)

  -- the sum of a row
  abbrev pub sum : List K → K
  sum [] = F.zero
  sum (b ∷ bs) = F.add b (sum bs)

  -- f on the m blocks of a buffer
  abbrev pub on_blocks : ℕ → (List K → List K) → List ℕ → List ℕ
  on_blocks m f bs = flat F (f (blocks F m bs))

-- f at each element and its place, the first place being i
abbrev pub each : {A B : Type 0} → (ℕ → A → B) → ℕ → List A → List B
each f i [] = []
each f i (b ∷ bs) = f i b ∷ each f (suc i) bs
