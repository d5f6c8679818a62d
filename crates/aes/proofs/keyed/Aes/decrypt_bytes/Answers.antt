-- What is left to show of `aes::keyed::Aes::decrypt_bytes`.
use Rattle.std.proofs.Common.{ℕ, List, length, ◌+◌}
use Rattle.aes.specs.Cipher.{inv_cipher}
use Rattle.aes.proofs.RoundKeys.{added_key, last_key}
use Rattle.aes.proofs.RoundSteps.{inv_rounds_none, inv_rounds_more}
use Rattle.aes.proofs.keyed.Aes.decrypt_bytes.Goals as goal

pub loop-key-preserved : goal.loop-key-preserved
loop-key-preserved c =
    let w : List ℕ = c.args.self.now.keys in
    let n : ℕ = length c.next.new.self.iter.rest.now in
    let k = last_key w c.loop-key.key-iterator.iter.rest.now c.next.new.self.iter.rest.now c.in-Some.key.now c.loop-key.invariant.0 c.in-Some.ensures.steps in
    let a = added_key w (n + 1) c.inv_sub_bytes.result in
    let r = inv_rounds_more w n c.loop-key.t in
    let i = c.loop-key.invariant.1 in
    (k.2, cc (k.0, k.1, a, r, i))

pub returns : goal.returns
unfolding inv_cipher
returns c =
    let w : List ℕ = c.args.self.now.keys in
    let e = c.in-None.ensures.steps.0 in
    let r = inv_rounds_none w c.loop-key.t in
    let i = c.loop-key.invariant.1 in
    let a = added_key w 10 c.args.s in
    let b = added_key w 0 c.inv_sub_bytes-2.result in cc
