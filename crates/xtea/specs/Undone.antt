-- XTEA's two maps keep strings of 8 bytes, and each undoes the other, for every list of key words.
use Rattle.std.specs.Prelude.{◌≡◌, ℕ, ◌+◌, ◌*◌, ◌/◌, ◌%◌, ◌^◌, ◌<◌, List, [], ◌∷◌, ◌++◌, length, bit_xor, slice_index_or, refl}
use Rattle.std.proofs.Common.{sym, ap₂, ◌∙◌, arith}
use Rattle.std.proofs.Math.Path.{ap}
use Rattle.std.proofs.lemmas.Nat.{shr-shr, xor_lt}
use Rattle.std.proofs.lemmas.List.FromFn.{fill_by_all}
use Rattle.kind.specs.Laws.{Bytes}
use Rattle.kind.specs.PolynomialsLemmas.{from_octets}
use Rattle.xtea.specs.declared.State.{State}
use Rattle.xtea.specs.Repeat.{repeat}
use Rattle.xtea.specs.Xtea.{plus, minus, mix, delta, first_key, second_key, grow_v0, grow_s, grow_v1, cycle, shrink_v0, shrink_s, shrink_v1, inv_cycle, word_at, word_bytes, start, bytes_of, last, encipher, decipher}
use Rattle.xtea.specs.Repeated.{repeat_keeps, repeat_map, repeat_undone}

mix_lt : (v s k : ℕ) → mix v s k < 2 ^ 32
mix_lt v s k = xor_lt 32 (plus (bit_xor ((v * 2 ^ 4) % 2 ^ 32) (v / 2 ^ 5)) v) (plus s k) (omega arith) (omega arith)

minus_plus : (a b : ℕ) → a < 2 ^ 32 → b < 2 ^ 32 → minus (plus a b) b ≡ a
minus_plus a b p q = omega arith

plus_minus : (a b : ℕ) → a < 2 ^ 32 → b < 2 ^ 32 → plus (minus a b) b ≡ a
plus_minus a b p q = omega arith

-- the words fit their type
record Fit (w : State) : Type 0 where
  pub f0 : w.v0 < 2 ^ 32
  pub f1 : w.v1 < 2 ^ 32
  pub fs : w.s < 2 ^ 32

-- a word and its four bytes
word_of_bytes : (v : ℕ) → v < 2 ^ 32 → v / 16777216 % 256 * 16777216 + v / 65536 % 256 * 65536 + v / 256 % 256 * 256 + v % 256 ≡ v
word_of_bytes v h =
    let e : v / 256 / 256 ≡ v / 65536 = shr-shr v 8 8 in
    let f : v / 65536 / 256 ≡ v / 16777216 = shr-shr v 16 8 in
    let a : v / 16777216 % 256 ≡ v / 16777216 = omega arith in
    let b : v / 65536 ≡ v / 65536 / 256 * 256 + v / 65536 % 256 = omega arith in
    let c : v / 256 ≡ v / 256 / 256 * 256 + v / 256 % 256 = omega arith in
    let d : v ≡ v / 256 * 256 + v % 256 = omega arith in
    omega (arith, a, b, c, d, e, f)

bytes_of_word : (a b c d : ℕ) → a < 256 → b < 256 → c < 256 → d < 256 → word_bytes (a * 16777216 + b * 65536 + c * 256 + d) ≡ a ∷ b ∷ c ∷ d ∷ []
bytes_of_word a b c d ha hb hc hd =
    let v : ℕ = a * 16777216 + b * 65536 + c * 256 + d in
    let p : v / 16777216 % 256 ≡ a = omega arith in
    let q : v / 65536 % 256 ≡ b = omega arith in
    let r : v / 256 % 256 ≡ c = omega arith in
    let t : v % 256 ≡ d = omega arith in
    cc

word_lt : (bs : List ℕ) → Bytes bs → (i : ℕ) → word_at bs i < 2 ^ 32
word_lt bs h i =
    let a = h i in
    let b = h (i + 1) in
    let c = h (i + 2) in
    let d = h (i + 3) in
    omega arith

module _ (k : List ℕ) where
  cycle_fit : (w : State) → Fit w → Fit (cycle k w)
  cycle_fit w h = record { f0 = omega arith; f1 = omega arith; fs = omega arith }

  inv_cycle_fit : (w : State) → Fit w → Fit (inv_cycle k w)
  inv_cycle_fit w h = record { f0 = omega arith; f1 = omega arith; fs = omega arith }

  v0_undone : (w : State) → Fit w → shrink_v0 k (grow_v0 k w) ≡ w
  v0_undone w h = let e = minus_plus w.v0 (mix w.v1 w.s (first_key k w.s)) h.f0 (mix_lt w.v1 w.s (first_key k w.s)) in simp e

  inv_v0_undone : (w : State) → Fit w → grow_v0 k (shrink_v0 k w) ≡ w
  inv_v0_undone w h = let e = plus_minus w.v0 (mix w.v1 w.s (first_key k w.s)) h.f0 (mix_lt w.v1 w.s (first_key k w.s)) in simp e

  s_undone : (w : State) → Fit w → shrink_s (grow_s w) ≡ w
  s_undone w h = let e = minus_plus w.s delta h.fs (omega arith) in simp e

  inv_s_undone : (w : State) → Fit w → grow_s (shrink_s w) ≡ w
  inv_s_undone w h = let e = plus_minus w.s delta h.fs (omega arith) in simp e

  v1_undone : (w : State) → Fit w → shrink_v1 k (grow_v1 k w) ≡ w
  v1_undone w h = let e = minus_plus w.v1 (mix w.v0 w.s (second_key k w.s)) h.f1 (mix_lt w.v0 w.s (second_key k w.s)) in simp e

  inv_v1_undone : (w : State) → Fit w → grow_v1 k (shrink_v1 k w) ≡ w
  inv_v1_undone w h = let e = plus_minus w.v1 (mix w.v0 w.s (second_key k w.s)) h.f1 (mix_lt w.v0 w.s (second_key k w.s)) in simp e

  cycle_undone : (w : State) → Fit w → inv_cycle k (cycle k w) ≡ w
  cycle_undone w h =
      let h1 : Fit (grow_v0 k w) = record { f0 = omega arith; f1 = h.f1; fs = h.fs } in
      let h2 : Fit (grow_s (grow_v0 k w)) = record { f0 = h1.f0; f1 = h1.f1; fs = omega arith } in
      ap (λ x. shrink_v0 k (shrink_s x)) (v1_undone (grow_s (grow_v0 k w)) h2)
      ∙ ap (shrink_v0 k) (s_undone (grow_v0 k w) h1)
      ∙ v0_undone w h

  inv_cycle_undone : (w : State) → Fit w → cycle k (inv_cycle k w) ≡ w
  inv_cycle_undone w h =
      let h1 : Fit (shrink_v1 k w) = record { f0 = h.f0; f1 = omega arith; fs = h.fs } in
      let h2 : Fit (shrink_s (shrink_v1 k w)) = record { f0 = h1.f0; f1 = h1.f1; fs = omega arith } in
      ap (λ x. grow_v1 k (grow_s x)) (inv_v0_undone (shrink_s (shrink_v1 k w)) h2)
      ∙ ap (grow_v1 k) (inv_s_undone (shrink_v1 k w) h1)
      ∙ inv_v1_undone w h

  -- s after n cycles does not depend on the block
  s_after : (w : State) → w.s ≡ 0 → (repeat (cycle k) 32 w).s ≡ last
  unfolding repeat
  s_after w e = repeat_map (λ x. x.s) (cycle k) (λ s. plus s delta) (λ x. refl) 32 w ∙ ap (repeat (λ s. plus s delta) 32) e

  s_before : (w : State) → w.s ≡ last → (repeat (inv_cycle k) 32 w).s ≡ 0
  unfolding repeat
  s_before w e = repeat_map (λ x. x.s) (inv_cycle k) (λ s. minus s delta) (λ x. refl) 32 w ∙ ap (repeat (λ s. minus s delta) 32) e

  start_fit : (s : ℕ) (bs : List ℕ) → s < 2 ^ 32 → Bytes bs → Fit (start s bs)
  start_fit s bs p h = record { f0 = word_lt bs h 0; f1 = word_lt bs h 4; fs = p }

  start_bytes : (w : State) → Fit w → (s : ℕ) → w.s ≡ s → start s (bytes_of w) ≡ w
  start_bytes w h s e =
      let a = word_of_bytes w.v0 h.f0 in
      let b = word_of_bytes w.v1 h.f1 in
      simp (a, b, ← e)

  bytes_start : (s : ℕ) (bs : List ℕ) → length bs ≡ 8 → Bytes bs → bytes_of (start s bs) ≡ bs
  bytes_start s bs l h =
      let b : (i : ℕ) → ℕ = λ i. slice_index_or bs i 0 in
      ap₂ (λ x y. x ++ y)
      (bytes_of_word (b 0) (b 1) (b 2) (b 3) (h 0) (h 1) (h 2) (h 3))
      (bytes_of_word (b 4) (b 5) (b 6) (b 7) (h 4) (h 5) (h 6) (h 7))
      ∙ sym (fill_by_all b bs 8 0 l (λ i q. refl))

  bytes_bytes : (w : State) → Bytes (bytes_of w)
  bytes_bytes w =
      from_octets (bytes_of w)
      (omega arith, (omega arith, (omega arith, (omega arith, (omega arith, (omega arith, (omega arith, (omega arith, tt))))))))

  pub encipher_bytes : (bs : List ℕ) → (length (encipher k bs) ≡ 8) × Bytes (encipher k bs)
  unfolding encipher
  encipher_bytes bs = (refl, bytes_bytes (repeat (cycle k) 32 (start 0 bs)))

  pub decipher_bytes : (bs : List ℕ) → (length (decipher k bs) ≡ 8) × Bytes (decipher k bs)
  unfolding decipher
  decipher_bytes bs = (refl, bytes_bytes (repeat (inv_cycle k) 32 (start last bs)))

  pub encipher_undone : (bs : List ℕ) → length bs ≡ 8 → Bytes bs → decipher k (encipher k bs) ≡ bs
  unfolding encipher decipher
  encipher_undone bs l h =
      let g = start_fit 0 bs (omega arith) h in
      let w : State = repeat (cycle k) 32 (start 0 bs) in
      let e = start_bytes w (repeat_keeps Fit (cycle k) cycle_fit 32 (start 0 bs) g) last (s_after (start 0 bs) refl) in
      ap (λ x. bytes_of (repeat (inv_cycle k) 32 x)) e
      ∙ ap bytes_of (repeat_undone Fit (cycle k) (inv_cycle k) cycle_fit cycle_undone 32 (start 0 bs) g)
      ∙ bytes_start 0 bs l h

  pub decipher_undone : (bs : List ℕ) → length bs ≡ 8 → Bytes bs → encipher k (decipher k bs) ≡ bs
  unfolding encipher decipher
  decipher_undone bs l h =
      let g = start_fit last bs (omega arith) h in
      let w : State = repeat (inv_cycle k) 32 (start last bs) in
      let e = start_bytes w (repeat_keeps Fit (inv_cycle k) inv_cycle_fit 32 (start last bs) g) 0 (s_before (start last bs) refl) in
      ap (λ x. bytes_of (repeat (cycle k) 32 x)) e
      ∙ ap bytes_of (repeat_undone Fit (inv_cycle k) (cycle k) inv_cycle_fit inv_cycle_undone 32 (start last bs) g)
      ∙ bytes_start last bs l h
