-- The proofs on numbers, each file above those that it cites.
pub mod Linear
pub mod Ring
pub mod Inverse
pub mod Kind64
pub mod Kind128
pub mod Mask
pub mod MaskSum
pub mod Steps
pub mod Divide
pub mod MaskMap
pub mod MaskAt
pub mod Bytes
pub mod Window
pub mod Raised
pub mod Euclid
pub mod Degree
pub mod Laws
