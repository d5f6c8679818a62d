-- What the laws of a cipher rest on: the short kind's laws.
use Rattle.kind.specs.Laws.{Laws}
use Rattle.kind.specs.Polynomials.{short_ops}
use Rattle.kind.specs.PolynomialsLemmas.{poly_laws}
use Rattle.poly.specs.Shorts.{short_field, short_numbers}

pub short_laws : Laws short_ops
short_laws = poly_laws 64 0x1b (λ s. s.word) short_field short_numbers
