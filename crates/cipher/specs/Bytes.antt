-- Ciphers that are defined on strings of bytes.
use Rattle.std.specs.Prelude.{ℕ, List}
use Rattle.kind.specs.Laws.{Ops}

-- a map on strings of bytes, as a map on the blocks of a kind
abbrev pub through_bytes : {K : Type 0} → Ops K → (List ℕ → List ℕ) → K → K
through_bytes o f b = o.block (f (o.bytes b))
