-- The tables of a multiplier.
use Rattle.std.specs.Prelude.{◌≡◌, ℕ, ◌<◌, List, length, slice_index_or}
use Rattle.field.specs.Field.{mul}
use Rattle.field.specs.Window.{raise}

-- the multiples of b by the sixteen polynomials of a degree below four, each at its own number
pub record Multiples {E : Type 0} (n f : ℕ) (value : E → ℕ) (b : ℕ) (all : List E) : Type 0 where
  pub sixteen : length all ≡ 16
  pub each : (k : ℕ) (d : E) → k < 16 → value (slice_index_or all k d) ≡ mul n f k b

-- the tables of an element: its multiples, and those of x^4 times it
pub record Ready {E : Type 0} (n f : ℕ) (value : E → ℕ) (of : E) (low high : List E) : Type 0 where
  pub lows : Multiples n f value (value of) low
  pub highs : Multiples n f value (raise n f 4 (value of)) high
