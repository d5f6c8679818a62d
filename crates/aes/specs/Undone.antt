-- The cipher and the inverse cipher undo one another on 16 bytes, for every expanded key of bytes.
use Rattle.std.specs.Prelude.{◌≡◌, ℕ, zero, suc, ◌+◌, ◌*◌, ◌<◌, List, bit_xor, slice_index}
use Rattle.std.proofs.Math.Path.{refl, ap}
use Rattle.std.proofs.Common.{◌∙◌}
use Rattle.std.specs.Int.Bits.{xor_lt, xor_assoc, xor_self, xor_zero_r}
use Rattle.aes_steps.specs.Steps.{at, state, sub_bytes, inv_sub_bytes, shift_rows, inv_shift_rows, mix_columns, inv_mix_columns}
use Rattle.aes_steps.proofs.States.{Block, at_state, state_is, state_block}
use Rattle.aes_steps.proofs.Undone.{sub_bytes_undone, inv_sub_bytes_undone, sub_bytes_block, inv_sub_bytes_block, shift_rows_undone, inv_shift_rows_undone, shift_rows_block, inv_shift_rows_block, mix_columns_undone, inv_mix_columns_undone, mix_columns_block, inv_mix_columns_block}
use Rattle.aes.specs.Cipher.{add_round_key, rounds, inv_rounds, cipher, inv_cipher}

-- SubBytes and ShiftRows together, and their inverses
abbrev middle : List ℕ → List ℕ
middle s = shift_rows (sub_bytes s)

abbrev inv_middle : List ℕ → List ℕ
inv_middle s = inv_sub_bytes (inv_shift_rows s)

middle_block : (s : List ℕ) → Block s → Block (middle s)
middle_block s b = shift_rows_block (sub_bytes s) (sub_bytes_block s b)

inv_middle_block : (s : List ℕ) → Block s → Block (inv_middle s)
inv_middle_block s b = inv_sub_bytes_block (inv_shift_rows s) (inv_shift_rows_block s b)

middle_undone : (s : List ℕ) → Block s → inv_middle (middle s) ≡ s
middle_undone s b = ap inv_sub_bytes (shift_rows_undone (sub_bytes s) (sub_bytes_block s b)) ∙ sub_bytes_undone s b

inv_middle_undone : (s : List ℕ) → Block s → middle (inv_middle s) ≡ s
inv_middle_undone s b = ap shift_rows (inv_sub_bytes_undone (inv_shift_rows s) (inv_shift_rows_block s b)) ∙ inv_shift_rows_undone s b

module _ (w : List ℕ) (k : (i : ℕ) → slice_index w i < 256) where
  abbrev key_byte : ℕ → ℕ → ℕ → ℕ
  key_byte n r c = slice_index w (4 * (4 * n + c) + r)

  add_undone : (n : ℕ) (s : List ℕ) → Block s → add_round_key w n (add_round_key w n s) ≡ s
  unfolding add_round_key
  add_undone n s b =
      state_is (λ r c. bit_xor (at (state (λ i j. bit_xor (at s i j) (key_byte n i j))) r c) (key_byte n r c)) s b.len
      (λ r c hr hc.
      let x : ℕ = at s r c in
      let y : ℕ = key_byte n r c in
      ap (λ z. bit_xor z y) (at_state (λ i j. bit_xor (at s i j) (key_byte n i j)) r c hr hc)
      ∙ xor_assoc x y y ∙ ap (bit_xor x) (xor_self y) ∙ xor_zero_r x)

  add_block : (n : ℕ) (s : List ℕ) → Block s → Block (add_round_key w n s)
  unfolding add_round_key
  add_block n s b =
      state_block (λ r c. bit_xor (at s r c) (key_byte n r c))
      (λ r c hr hc. xor_lt 8 (at s r c) (key_byte n r c) (b.fits (r + 4 * c)) (k (4 * (4 * n + c) + r)))

  rounds_block : (n : ℕ) (s : List ℕ) → Block s → Block (rounds w n s)
  unfolding rounds
  rounds_block zero s b = b
  rounds_block (suc n) s b =
      add_block (suc n) (mix_columns (middle (rounds w n s)))
      (mix_columns_block (middle (rounds w n s)) (middle_block (rounds w n s) (rounds_block n s b)))

  inv_rounds_block : (n : ℕ) (s : List ℕ) → Block s → Block (inv_rounds w n s)
  unfolding inv_rounds
  inv_rounds_block zero s b = b
  inv_rounds_block (suc n) s b =
      inv_rounds_block n (inv_mix_columns (add_round_key w (suc n) (inv_middle s)))
      (inv_mix_columns_block (add_round_key w (suc n) (inv_middle s)) (add_block (suc n) (inv_middle s) (inv_middle_block s b)))

  rounds_undone : (n : ℕ) (s : List ℕ) → Block s → inv_rounds w n (middle (rounds w n s)) ≡ middle s
  unfolding rounds inv_rounds
  rounds_undone zero s b = refl
  rounds_undone (suc n) s b =
      let x : List ℕ = rounds w n s in
      let bx = rounds_block n s b in
      let m : List ℕ = mix_columns (middle x) in
      let bm = mix_columns_block (middle x) (middle_block x bx) in
      let y : List ℕ = add_round_key w (suc n) m in
      ap (λ z. inv_rounds w n (inv_mix_columns (add_round_key w (suc n) z))) (middle_undone y (add_block (suc n) m bm))
      ∙ ap (λ z. inv_rounds w n (inv_mix_columns z)) (add_undone (suc n) m bm)
      ∙ ap (inv_rounds w n) (mix_columns_undone (middle x) (middle_block x bx))
      ∙ rounds_undone n s b

  inv_rounds_undone : (n : ℕ) (s : List ℕ) → Block s → rounds w n (inv_middle (inv_rounds w n s)) ≡ inv_middle s
  unfolding rounds inv_rounds
  inv_rounds_undone zero s b = refl
  inv_rounds_undone (suc n) s b =
      let u : List ℕ = add_round_key w (suc n) (inv_middle s) in
      let bu = add_block (suc n) (inv_middle s) (inv_middle_block s b) in
      let t : List ℕ = inv_mix_columns u in
      let bt = inv_mix_columns_block u bu in
      ap (λ z. add_round_key w (suc n) (mix_columns (middle z))) (inv_rounds_undone n t bt)
      ∙ ap (λ z. add_round_key w (suc n) (mix_columns z)) (inv_middle_undone t bt)
      ∙ ap (add_round_key w (suc n)) (inv_mix_columns_undone u bu)
      ∙ add_undone (suc n) (inv_middle s) (inv_middle_block s b)

  pub cipher_block : (s : List ℕ) → Block s → Block (cipher w s)
  unfolding cipher
  cipher_block s b =
      let x : List ℕ = rounds w 9 (add_round_key w 0 s) in
      add_block 10 (middle x) (middle_block x (rounds_block 9 (add_round_key w 0 s) (add_block 0 s b)))

  pub inv_cipher_block : (s : List ℕ) → Block s → Block (inv_cipher w s)
  unfolding inv_cipher
  inv_cipher_block s b =
      let x : List ℕ = inv_rounds w 9 (add_round_key w 10 s) in
      add_block 0 (inv_middle x) (inv_middle_block x (inv_rounds_block 9 (add_round_key w 10 s) (add_block 10 s b)))

  pub cipher_undone : (s : List ℕ) → Block s → inv_cipher w (cipher w s) ≡ s
  unfolding cipher inv_cipher
  cipher_undone s b =
      let a : List ℕ = add_round_key w 0 s in
      let ba = add_block 0 s b in
      let m : List ℕ = middle (rounds w 9 a) in
      let bm = middle_block (rounds w 9 a) (rounds_block 9 a ba) in
      ap (λ z. add_round_key w 0 (inv_middle (inv_rounds w 9 z))) (add_undone 10 m bm)
      ∙ ap (λ z. add_round_key w 0 (inv_middle z)) (rounds_undone 9 a ba)
      ∙ ap (add_round_key w 0) (middle_undone a ba)
      ∙ add_undone 0 s b

  pub inv_cipher_undone : (s : List ℕ) → Block s → cipher w (inv_cipher w s) ≡ s
  unfolding cipher inv_cipher
  inv_cipher_undone s b =
      let a : List ℕ = add_round_key w 10 s in
      let ba = add_block 10 s b in
      let y : List ℕ = inv_rounds w 9 a in
      let m : List ℕ = inv_middle y in
      let bm = inv_middle_block y (inv_rounds_block 9 a ba) in
      ap (λ z. add_round_key w 10 (middle (rounds w 9 z))) (add_undone 0 m bm)
      ∙ ap (λ z. add_round_key w 10 (middle z)) (inv_rounds_undone 9 a ba)
      ∙ ap (add_round_key w 10) (inv_middle_undone a ba)
      ∙ add_undone 10 s b
