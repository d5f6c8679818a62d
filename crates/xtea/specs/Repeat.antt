-- A step done n times.
use Rattle.std.specs.Prelude.{ℕ, zero, suc}

unfoldable pub repeat : {A : Type 0} → (A → A) → ℕ → A → A
repeat f zero x = x
repeat f (suc n) x = f (repeat f n x)
