-- Products and inverses of elements given as bytes.
use Rattle.std.specs.Prelude.{ℕ, Bool, true, false, List, Some, None, Option}
use Rattle.kind.specs.Laws.{Ops}

module _ {K : Type 0} (F : Ops K) where
  abbrev pub product : List ℕ → List ℕ → List ℕ
  product a b = F.bytes (F.mul (F.block a) (F.block b))

  abbrev pub bytes_or : Option K → List ℕ → List ℕ
  bytes_or None old = old
  bytes_or (Some b) old = F.bytes b

  -- the inverse's bytes; zero has none and stays
  abbrev pub inverted : List ℕ → List ℕ
  inverted a = bytes_or (F.inverse (F.block a)) a

abbrev pub is_there : {K : Type 0} → Option K → Bool
is_there None = false
is_there (Some b) = true
