-- What the laws of a cipher rest on: the wide kind's laws, and its blocks as states of AES.
use Rattle.std.specs.Prelude.{◌≡◌, ℕ, List, length}
use Rattle.kind.specs.Laws.{Laws, Bytes}
use Rattle.kind.specs.Polynomials.{wide_ops}
use Rattle.kind.specs.PolynomialsLemmas.{poly_laws}
use Rattle.poly.specs.Wides.{number, wide_field, wide_numbers}
use Rattle.aes_steps.proofs.States.{Block}

pub wide_laws : Laws wide_ops
wide_laws = poly_laws 128 0x87 number wide_field wide_numbers

abbrev pub block_of : (s : List ℕ) → length s ≡ 16 → Bytes s → Block s
block_of s l h = record { len = l; fits = h }
