-- What is left to show of `aes::keyed::Aes::encrypt_bytes`.
use Rattle.std.proofs.Common.{◌≡◌, ◌+◌, ℕ, List, [], get_or, length, sym, ap, ◌∙◌, arith}
use Rattle.std.proofs.lemmas.List.FromFn.{get_or-map-range_with_len}
use Rattle.aes.specs.Cipher.{round_key, cipher}
use Rattle.aes.proofs.RoundKeys.{added_key}
use Rattle.aes.proofs.RoundSteps.{rounds_none, rounds_more}
use Rattle.aes.proofs.keyed.Aes.encrypt_bytes.Goals as goal

pub loop-key-init : goal.loop-key-init
loop-key-init c = sym (rounds_none c.args.self.now.keys c.add_round_key-t.result)

pub loop-key-preserved : goal.loop-key-preserved
loop-key-preserved c =
    let w : List ℕ = c.args.self.now.keys in
    let n : ℕ = c.loop-key.key-index in
    let l : length c.round_keys.result.1.now ≡ 9 = ap length c.round_keys.ensures.middle in
    let k : get_or c.round_keys.result.1.now n [] ≡ round_key w (n + 1) =
    ap (λ (x : List (List ℕ)). get_or x n []) c.round_keys.ensures.middle ∙ get_or-map-range_with_len (λ i. round_key w i) 1 9 n (n + 1) [] (omega arith) (omega arith) in
    let a = added_key w (n + 1) c.mix_columns.result in
    let r = rounds_more w n c.add_round_key-t.result in cc

pub returns : goal.returns
unfolding cipher
returns c =
    let w : List ℕ = c.args.self.now.keys in
    let l : length c.round_keys.result.1.now ≡ 9 = ap length c.round_keys.ensures.middle in
    let e : c.loop-key.key-index ≡ 9 = omega arith in
    let a = added_key w 0 c.args.s in
    let b = added_key w 10 c.shift_rows-2.result in cc
