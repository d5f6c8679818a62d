-- What is left to show of `aes::rounds::add_round_key`.
use Rattle.std.proofs.Common.{◌≡◌, ◌+◌, ◌*◌, ◌/◌, ◌%◌, get_or, rules, arith, ◌∙◌, ap₂}
use lib.Bits.{bit_xor}
use Rattle.aes_steps.specs.Steps.{at}
use Rattle.aes.specs.Cipher.{add_round_key}
use Rattle.aes_steps.proofs.FromFn.{from_fn_is}
use Rattle.aes.proofs.rounds.add_round_key.Goals as goal

pub returns : goal.returns
unfolding add_round_key
returns c =
    from_fn_is _ (λ i. bit_xor (at c.args.s (i % 4) (i / 4)) (get_or c.args.key.now (4 * (4 * 0 + i / 4) + i % 4) 0)) _
    (λ i y f k.
    let v : y ≡ bit_xor (get_or c.args.s i 0) (get_or c.args.key.now i 0) = search rules in
    let p : i ≡ i % 4 + 4 * (i / 4) = omega arith in
    let q : i ≡ 4 * (4 * 0 + i / 4) + i % 4 = omega arith in
    (v ∙ ap₂ (λ x y. bit_xor (get_or c.args.s x 0) (get_or c.args.key.now y 0)) p q, search rules))
    c.from_fn.result 16 c.from_fn.ensures.items
