-- The worked cases, computed from the definitions.
use Rattle.std.proofs.Common.{refl}
use Rattle.field.specs.Bytes as octets
use Rattle.field.specs.Field.{times_x, combine, powers, mul}
use Rattle.field.specs.Mask.{times, singles, pairs, run, by_rest, coefficients}
use Rattle.poly.specs.Shorts.{short_numbers}
use Rattle.poly.specs.Wides.{wide_numbers}
use Rattle.kind.specs.Blocks.{blocks, flat}
use Rattle.kind.specs.Polynomials.{short_ops, wide_ops}
use Rattle.kind.proofs.Cases.{arithmetic_cases}
use Rattle.sealing.specs.Mode.{sealed, first_pass, second_pass, third_pass}
use Rattle.cases.specs.Cases.{SealingCases, WorkedCases}

short_cases : SealingCases short_ops
unfolding sealed first_pass second_pass third_pass blocks flat times_x combine powers mul times singles pairs run by_rest coefficients short_numbers octets.bytes octets.number
short_cases = record {
  one_block = refl;
  one_block_dead = refl;
  two_blocks_dead = refl;
  two_blocks = refl;
  after_first = refl;
  after_second = refl;
  after_third = refl;
  three_blocks = refl;
  three_more = refl;
}

wide_cases : SealingCases wide_ops
unfolding sealed first_pass second_pass third_pass blocks flat times_x combine powers mul times singles pairs run by_rest coefficients wide_numbers octets.bytes octets.number
wide_cases = record {
  one_block = refl;
  one_block_dead = refl;
  two_blocks_dead = refl;
  two_blocks = refl;
  after_first = refl;
  after_second = refl;
  after_third = refl;
  three_blocks = refl;
  three_more = refl;
}

pub worked_cases : WorkedCases
worked_cases = record { arithmetic = arithmetic_cases; short = short_cases; wide = wide_cases; thirteen = refl }
