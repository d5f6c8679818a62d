-- Cipher and InvCipher of FIPS 197 for ten rounds, on 16 bytes, over an expanded key w.
use Rattle.std.specs.Prelude.{ℕ, zero, suc, ◌+◌, ◌*◌, List, take, drop, bit_xor, slice_index}
use Rattle.aes_steps.specs.Steps.{at, state, sub_bytes, inv_sub_bytes, shift_rows, inv_shift_rows, mix_columns, inv_mix_columns}

-- the 16 bytes of the round key for a round
abbrev pub round_key : List ℕ → ℕ → List ℕ
round_key w round = take 16 (drop (16 * round) w)

-- AddRoundKey: column c of the state ⊕ w[4 round + c]
unfoldable pub add_round_key : List ℕ → ℕ → List ℕ → List ℕ
add_round_key w round s = state (λ r c. bit_xor (at s r c) (slice_index w (4 * (4 * round + c) + r)))

-- the rounds 1 to n
unfoldable pub rounds : List ℕ → ℕ → List ℕ → List ℕ
rounds w zero s = s
rounds w (suc n) s = add_round_key w (suc n) (mix_columns (shift_rows (sub_bytes (rounds w n s))))

-- Cipher: round key 0, nine rounds, and a tenth without MixColumns
unfoldable pub cipher : List ℕ → List ℕ → List ℕ
cipher w s = add_round_key w 10 (shift_rows (sub_bytes (rounds w 9 (add_round_key w 0 s))))

-- the inverse rounds n down to 1
unfoldable pub inv_rounds : List ℕ → ℕ → List ℕ → List ℕ
inv_rounds w zero s = s
inv_rounds w (suc n) s = inv_rounds w n (inv_mix_columns (add_round_key w (suc n) (inv_sub_bytes (inv_shift_rows s))))

-- InvCipher: round key 10, nine inverse rounds, and a tenth without InvMixColumns
unfoldable pub inv_cipher : List ℕ → List ℕ → List ℕ
inv_cipher w s = add_round_key w 0 (inv_sub_bytes (inv_shift_rows (inv_rounds w 9 (add_round_key w 10 s))))
