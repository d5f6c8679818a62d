-- One round more, as the loops go.
use Rattle.std.proofs.Common.{◌≡◌, ℕ, suc, ◌+◌, List, refl, add-one}
use Rattle.aes_steps.specs.Steps.{sub_bytes, inv_sub_bytes, shift_rows, inv_shift_rows, mix_columns, inv_mix_columns}
use Rattle.aes.specs.Cipher.{add_round_key, rounds, inv_rounds}

pub rounds_none : (w s : List ℕ) → rounds w 0 s ≡ s
unfolding rounds
rounds_none w s = refl

pub inv_rounds_none : (w s : List ℕ) → inv_rounds w 0 s ≡ s
unfolding inv_rounds
inv_rounds_none w s = refl

rounds_suc : (w : List ℕ) (n : ℕ) (s : List ℕ) → rounds w (suc n) s ≡ add_round_key w (suc n) (mix_columns (shift_rows (sub_bytes (rounds w n s))))
unfolding rounds
rounds_suc w n s = refl

inv_rounds_suc : (w : List ℕ) (n : ℕ) (s : List ℕ)
    → inv_rounds w (suc n) s ≡ inv_rounds w n (inv_mix_columns (add_round_key w (suc n) (inv_sub_bytes (inv_shift_rows s))))
unfolding inv_rounds
inv_rounds_suc w n s = refl

pub rounds_more : (w : List ℕ) (n : ℕ) (s : List ℕ) → rounds w (n + 1) s ≡ add_round_key w (n + 1) (mix_columns (shift_rows (sub_bytes (rounds w n s))))
rounds_more w n s = let e = add-one n in let f = rounds_suc w n s in cc

pub inv_rounds_more : (w : List ℕ) (n : ℕ) (s : List ℕ)
    → inv_rounds w (n + 1) s ≡ inv_rounds w n (inv_mix_columns (add_round_key w (n + 1) (inv_sub_bytes (inv_shift_rows s))))
inv_rounds_more w n s = let e = add-one n in let f = inv_rounds_suc w n s in cc
