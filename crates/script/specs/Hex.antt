-- Hexadecimal digits, and the bytes that pairs of them spell.
use Rattle.std.specs.Prelude.{◌≡◌, ℕ, ◌+◌, ◌-◌, ◌*◌, ◌<◌, cond, ◌&&◌, List, length, Some, None, vec_items, Option, Vec, nat_le, slice_index}
use Rattle.std.specs.declared.alloc.Global.{Global}

-- 0 to 9, then a to f or A to F
abbrev pub digit_value : ℕ → Option ℕ
digit_value d =
    cond (nat_le 48 d && nat_le d 57) (Some (d - 48))
    (cond (nat_le 97 d && nat_le d 102) (Some (d - 97 + 10))
    (cond (nat_le 65 d && nat_le d 70) (Some (d - 65 + 10)) None))

-- the byte of two digits
abbrev pub pair : Option ℕ → Option ℕ → Option ℕ
pair None low = None
pair (Some high) None = None
pair (Some high) (Some low) = Some (16 * high + low)

-- the byte that the pair of digits at place k spells
abbrev pub byte_at : List ℕ → ℕ → Option ℕ
byte_at text k = pair (digit_value (slice_index text (2 * k))) (digit_value (slice_index text (2 * k + 1)))

-- the bytes are spelled by the text, two digits each
pub record Spells (text bytes : List ℕ) : Type 0 where
  pub long : length text ≡ 2 * length bytes
  pub each : (k : ℕ) → k < length bytes → byte_at text k ≡ Some (slice_index bytes k)

abbrev pub SpelledBy : List ℕ → Option (Vec ℕ Global) → Type 0
SpelledBy text None = Unit {0}
SpelledBy text (Some v) = Spells text (vec_items v)
