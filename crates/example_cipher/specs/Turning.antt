-- The cipher that adds a key and turns the bytes by one place, and its inverse.
use Rattle.std.specs.Prelude.{ℕ, List, [], ◌∷◌, slice_index}
use Rattle.cipher.specs.Bytes.{through_bytes}
use Rattle.kind.specs.Polynomials.{short_ops}
use Rattle.poly.specs.declared.short.Short.{Short}
use Rattle.example_cipher.specs.declared.Turning.{Turning}

-- the first of eight bytes comes last
abbrev pub turn : List ℕ → List ℕ
turn s =
    slice_index s 1 ∷ slice_index s 2 ∷ slice_index s 3 ∷ slice_index s 4 ∷ slice_index s 5 ∷ slice_index s 6 ∷ slice_index s 7 ∷ slice_index s 0 ∷ []

-- the last of eight bytes comes first
abbrev pub turn_back : List ℕ → List ℕ
turn_back s =
    slice_index s 7 ∷ slice_index s 0 ∷ slice_index s 1 ∷ slice_index s 2 ∷ slice_index s 3 ∷ slice_index s 4 ∷ slice_index s 5 ∷ slice_index s 6 ∷ []

-- E(b) = turn (b ⊕ key)
abbrev pub encrypted : Turning → Short → Short
encrypted c b = through_bytes short_ops turn (short_ops.add b c.key)

-- D(b) = turn_back b ⊕ key
abbrev pub decrypted : Turning → Short → Short
decrypted c b = short_ops.add (through_bytes short_ops turn_back b) c.key
