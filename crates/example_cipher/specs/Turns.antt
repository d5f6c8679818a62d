-- A block whose bytes are turned and turned back is as it was, and the other way round.
use Rattle.std.specs.Prelude.{◌≡◌, ℕ, List, [], ◌∷◌, length, slice_index, refl}
use Rattle.std.proofs.Common.{sym}
use Rattle.std.proofs.lemmas.List.FromFn.{fill_by_all}
use Rattle.cipher.specs.Bytes.{through_bytes}
use Rattle.cipher.proofs.Through.{through_undone}
use Rattle.kind.specs.Laws.{Laws, Bytes}
use Rattle.kind.specs.Polynomials.{short_ops}
use Rattle.kind.specs.PolynomialsLemmas.{poly_laws, from_octets}
use Rattle.poly.specs.Shorts.{short_field, short_numbers}
use Rattle.poly.specs.declared.short.Short.{Short}
use Rattle.example_cipher.specs.Turning.{turn, turn_back}

pub short_laws : Laws short_ops
short_laws = poly_laws 64 0x1b (λ s. s.word) short_field short_numbers

-- eight bytes are the list of its places
eight : (s : List ℕ) → length s ≡ 8
    → slice_index s 0 ∷ slice_index s 1 ∷ slice_index s 2 ∷ slice_index s 3 ∷ slice_index s 4 ∷ slice_index s 5 ∷ slice_index s 6 ∷ slice_index s 7 ∷ [] ≡ s
eight s l = sym (fill_by_all (λ i. slice_index s i) s 8 0 l (λ k h. refl))

turn_keeps : (s : List ℕ) → Bytes s → (length (turn s) ≡ 8) × Bytes (turn s)
turn_keeps s h = (
  refl,
  from_octets (turn s) (h 1, (h 2, (h 3, (h 4, (h 5, (h 6, (h 7, (h 0, tt)))))))),
)

turn_back_keeps : (s : List ℕ) → Bytes s → (length (turn_back s) ≡ 8) × Bytes (turn_back s)
turn_back_keeps s h = (
  refl,
  from_octets (turn_back s) (h 7, (h 0, (h 1, (h 2, (h 3, (h 4, (h 5, (h 6, tt)))))))),
)

pub turned_back : (b : Short) → through_bytes short_ops turn_back (through_bytes short_ops turn b) ≡ b
turned_back b = through_undone short_ops short_laws turn turn_back (λ s l h. turn_keeps s h) (λ s l h. eight s l) b

pub turned_forth : (b : Short) → through_bytes short_ops turn (through_bytes short_ops turn_back b) ≡ b
turned_forth b = through_undone short_ops short_laws turn_back turn (λ s l h. turn_back_keeps s h) (λ s l h. eight s l) b
