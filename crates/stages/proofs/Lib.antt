-- The passes in order.
pub mod Order
