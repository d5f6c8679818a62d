-- The short kind: the words of 64 bits, by their numbers.
use Rattle.std.specs.Prelude.{◌≡◌, refl, ◌^◌, ◌<◌}
use Rattle.std.proofs.Common.{inl, lit<}
use mathlib.Core.HLevel.{is_prop→PathP}
use Rattle.std.proofs.Math.Bridge.{le_prop}
use Rattle.field.specs.Field.{short_terms}
use Rattle.field.proofs.Laws as laws
use Rattle.arithmetic.specs.Facts.{Modulus, Numbers}
use Rattle.poly.specs.declared.short.Short.{Short}

pub short_field : Modulus 64 short_terms
short_field = record { fits = lit< tt; wide = lit< tt; broad = lit< tt; few = lit< tt; octets = refl; sizes = inl refl; laws = laws.short_field; masks = laws.short_masks }

pub short_apart : (d e : Short) → d.word ≡ e.word → d ≡ e
short_apart d e p = λ i. record { word = p i; fits = is_prop→PathP (λ j. p j < 2 ^ 64) (λ j. le_prop) d.fits e.fits i }

unfoldable pub short_numbers : Numbers 64 (λ (s : Short). s.word)
short_numbers = record { below = λ e. e.fits; apart = short_apart; make = λ v h. record { word = v; fits = h }; made = λ v h. refl }
