-- The turns of a walk over the blocks of a buffer, as the calls of a turn tell them: m is the number of blocks before the walk, and n that of now.
use Rattle.std.proofs.Common.{◌≡◌, ℕ, ◌+◌, ◌*◌, ◌<◌, ◌≤◌, List, [], ◌∷◌, map, length, get_or, set, refl, ap, subst, ◌∙◌, arith}
use Rattle.kind.specs.Laws.{Ops, Laws, Bytes}
use Rattle.kind.specs.Blocks.{blocks, flat, over, after}
use Rattle.kind.proofs.Buffers.{blocks_length, bytes_from_blocks}
use Rattle.kind.proofs.Overs.{At, at_next, at_all, at_end}

-- a walk that changes no state is a map
pub map_over : {S K : Type 0} (f : S → K → K) (s : S) (xs : List K) → over f (λ s b. s) s xs ≡ map (f s) xs
unfolding over
map_over f s [] = refl
map_over f s (b ∷ xs) = ap (λ t. f s b ∷ t) (map_over f s xs)

module _ {K S : Type 0} (o : Ops K) (out : S → K → K) (next : S → K → S) (s₀ : S) (m : ℕ) (old : List ℕ) where
  -- where the walk of the buffer has come to
  abbrev pub Come : List ℕ → ℕ → S → Type 0
  Come now i s = At out next s₀ (blocks o m old) (blocks o m now) i s

  -- block x was read and v written, and the state became t
  pub turn : (n : ℕ) (now new : List ℕ) (i : ℕ) (s t : S) (x v : K) → n ≡ m → i < m → Come now i s → x ≡ get_or (blocks o n now) i x
      → v ≡ out s x → blocks o n new ≡ set (blocks o n now) i v → t ≡ next s x → Come new (i + 1) t
  turn n now new i s t x v e h a r p q w =
      let within : i < length (blocks o m old) = omega (arith, blocks_length o m old) in
      let read : x ≡ get_or (blocks o m now) i x = r ∙ ap (λ k. get_or (blocks o k now) i x) e in
      let written : blocks o m new ≡ set (blocks o m now) i v = subst (λ k. blocks o k new ≡ set (blocks o k now) i v) e q in
      at_next out next s₀ (blocks o m old) (blocks o m now) (blocks o m new) i s t x v within a read p written w

  pub done : Laws o → (n : ℕ) (now : List ℕ) (i : ℕ) (s : S) → n ≡ m → m ≤ i → length now ≡ n * o.size → Bytes now → Come now i s
      → now ≡ flat o (over out next s₀ (blocks o m old))
  done laws n now i s e h whole octets a =
      let past : length (blocks o m old) ≤ i = omega (arith, blocks_length o m old) in
      bytes_from_blocks o laws m now _ (whole ∙ ap (λ k. k * o.size) e) octets (at_all out next s₀ (blocks o m old) (blocks o m now) i s past a)

  pub ended : (now : List ℕ) (i : ℕ) (s : S) → m ≤ i → Come now i s → s ≡ after next s₀ (blocks o m old)
  ended now i s h a =
      let past : length (blocks o m old) ≤ i = omega (arith, blocks_length o m old) in
      at_end out next s₀ (blocks o m old) (blocks o m now) i s past a
