-- What the laws say of inverses: exactly one for every element but zero, and none for zero.
use Rattle.std.specs.Prelude.{◌≡◌, ◌≢◌, Some, None, Option}
use Rattle.kind.specs.Laws.{Ops}

-- the answer to a call for the inverse of a: none for zero, which has none, and else the only element whose product with a is one
abbrev pub IsInverse : {K : Type 0} → Ops K → K → Option K → Type 0
IsInverse {K} o a None = (a ≡ o.zero) × ((b : K) → o.mul a b ≢ o.one)
IsInverse {K} o a (Some b) = (a ≢ o.zero) × (o.mul a b ≡ o.one) × ((c : K) → o.mul a c ≡ o.one → c ≡ b)
