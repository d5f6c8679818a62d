-- One more byte at the end leaves those before it, and the pairs are those of the whole text.
use Rattle.std.proofs.Common.{length, arith, rules, below_more, ◌≡◌, ◌*◌, ◌/◌}
use Rattle.std.proofs.lemmas.Grind.{common_steps}
use Rattle.std.proofs.lemmas.Bool.Decides.{nat_tests}
use Rattle.script.proofs.Pairs.{byte_of_pair}
use Rattle.script.proofs.hex.from_hex.Goals as goal

pub loop-pair-preserved : goal.loop-pair-preserved
loop-pair-preserved c = (
  search rules,
  below_more _ _ (λ k h. let l = c.loop-pair.invariant.1 k h in grind (arith, common_steps)) (grind (arith, common_steps)),
)

pub returns : goal.returns
returns c =
    let text = c.args.text.now in
    let long : length text ≡ 2 * length c.loop-pair.bytes.items = grind (arith, nat_tests) in
    record {
      long = long;
      each =
          λ k h.
          let pair = byte_of_pair (length text / 2) k text (omega (arith, long)) in
          let spelled = c.loop-pair.invariant.1 k (omega (arith, c.loop-pair.invariant.0)) in
          grind (arith, common_steps);
    }
