-- What a block kind is: its operations, and the laws that it must show for all its elements.
use Rattle.std.specs.Prelude.{◌≡◌, ℕ, ◌<◌, ◌≤◌, List, length, Some, None, Option, slice_index}
use Rattle.field.specs.Bytes.{Size, xors}
use Rattle.field.specs.Bytes as octets
use Rattle.field.specs.Mask.{coefficients, Apart}
pub use Rattle.field.specs.Mask.{most_blocks}

-- every number of the list is a byte
abbrev pub Bytes : List ℕ → Type 0
Bytes bs = (i : ℕ) → slice_index bs i < 256

-- the operations of a kind: the bytes of a block, the elements zero, one and x, sum, product and inverse, and the string of an element and back
pub record Ops (K : Type 0) : Type 0 where
  pub size : ℕ
  pub zero : K
  pub one : K
  pub x : K
  pub add : K → K → K
  pub mul : K → K → K
  pub inverse : K → Option K
  pub bytes : K → List ℕ
  pub block : List ℕ → K

-- the block whose big-endian number is c
abbrev pub bin : {K : Type 0} → Ops K → ℕ → K
bin o c = o.block (octets.bytes o.size c)

-- the mask coefficients for m blocks, m from three up: what the masks multiply one value by
abbrev pub mask_coefficients : {K : Type 0} → Ops K → ℕ → List K
mask_coefficients o m = coefficients o.add (o.mul o.x) o.one m

-- what a kind must show
pub record Laws {K : Type 0} (o : Ops K) : Type 0 where
  -- a block has 8, 16, 32, 64 or 128 bytes
  pub sizes : Size o.size
  -- the sum: commutative, associative, zero neutral, each element its own negative
  pub add_comm : (a b : K) → o.add a b ≡ o.add b a
  pub add_assoc : (a b c : K) → o.add (o.add a b) c ≡ o.add a (o.add b c)
  pub add_zero : (a : K) → o.add a o.zero ≡ a
  pub add_self : (a : K) → o.add a a ≡ o.zero
  -- the product: commutative, associative, with a one, distributing over the sum
  pub mul_comm : (a b : K) → o.mul a b ≡ o.mul b a
  pub mul_assoc : (a b c : K) → o.mul (o.mul a b) c ≡ o.mul a (o.mul b c)
  pub mul_one : (a : K) → o.mul a o.one ≡ a
  pub distrib : (a b c : K) → o.mul a (o.add b c) ≡ o.add (o.mul a b) (o.mul a c)
  -- zero has no inverse, and every other element has one
  pub inverse_zero : o.inverse o.zero ≡ None
  pub inverse_none : (a : K) → o.inverse a ≡ None → a ≡ o.zero
  pub inverse_some : (a b : K) → o.inverse a ≡ Some b → o.mul a b ≡ o.one
  -- elements and strings of bytes correspond one to one, the sum being that of the bytes' bits
  pub bytes_length : (a : K) → length (o.bytes a) ≡ o.size
  pub bytes_bytes : (a : K) → Bytes (o.bytes a)
  pub block_bytes : (a : K) → o.block (o.bytes a) ≡ a
  pub bytes_block : (bs : List ℕ) → length bs ≡ o.size → Bytes bs → o.bytes (o.block bs) ≡ bs
  pub bytes_add : (a b : K) → o.bytes (o.add a b) ≡ xors (o.bytes a) (o.bytes b)
  -- no two mask coefficients are equal
  pub masks : (m : ℕ) → 3 ≤ m → m ≤ most_blocks → Apart (mask_coefficients o m)
