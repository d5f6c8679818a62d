-- What is left to show of `aes_steps::steps::sub_bytes`.
use Rattle.std.proofs.Common.{◌≡◌, ◌+◌, ◌*◌, ◌/◌, ◌%◌, get_or, rules, arith, ◌∙◌, ap}
use Rattle.aes_steps.specs.Sbox.{s_box}
use Rattle.aes_steps.specs.Steps.{at, sub_bytes}
use Rattle.aes_steps.proofs.FromFn.{from_fn_is}
use Rattle.aes_steps.proofs.steps.sub_bytes.Goals as goal

pub returns : goal.returns
unfolding sub_bytes
returns c =
    from_fn_is _ (λ i. s_box (at c.args.s (i % 4) (i / 4))) _
    (λ i y f k.
    let v : y ≡ s_box (get_or c.args.s i 0) = search rules in
    let p : i ≡ i % 4 + 4 * (i / 4) = omega arith in
    (v ∙ ap (λ x. s_box (get_or c.args.s x 0)) p, search rules))
    c.from_fn.result 16 c.from_fn.ensures.items
