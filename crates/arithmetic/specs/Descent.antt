-- The way down from the modulus to one.
use Rattle.std.specs.Prelude.{ℕ, ◌+◌, ◌^◌, ◌<◌, ◌≤◌}
use Rattle.std.specs.Int.Count.{count_leading_zeros}

-- two numbers with their factors: `small` has the lower degree, and its factor has exactly the degree that `big` lacks to the width
pub record Descent (n big over small under : ℕ) : Type 0 where
  pub falls : count_leading_zeros n big < count_leading_zeros n small
  pub over_lt : over < 2 ^ (count_leading_zeros n big + 1)
  pub under_le : 2 ^ (count_leading_zeros n big + 1) ≤ under
  pub under_lt : under < 2 ^ (count_leading_zeros n big + 2)

-- a division by `small` on its way: what is left of a number, with its factor, which already has the degree that `small` lacks to the width
pub record Division (n left factor small under : ℕ) : Type 0 where
  pub under_left : under < 2 ^ (count_leading_zeros n left + 1)
  pub under_small : under < 2 ^ (count_leading_zeros n small + 1)
  pub factor_le : 2 ^ (count_leading_zeros n small + 1) ≤ factor
  pub factor_lt : factor < 2 ^ (count_leading_zeros n small + 2)
