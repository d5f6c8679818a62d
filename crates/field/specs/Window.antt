-- Several steps of x at once, as the product takes them.
use Rattle.std.specs.Prelude.{ℕ, zero, suc}
use Rattle.field.specs.Field.{times_x}

-- x^k times a
unfoldable pub raise : ℕ → ℕ → ℕ → ℕ → ℕ
raise n f zero a = a
raise n f (suc k) a = times_x n f (raise n f k a)
