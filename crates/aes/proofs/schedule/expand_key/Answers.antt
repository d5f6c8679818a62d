-- What is left to show of `aes::schedule::expand_key`.
use Rattle.std.proofs.Common.{◌≡◌, ℕ, ◌+◌, ◌*◌, List, ◌++◌, length-append, get_or, take, sym, ap, ◌∙◌, arith, length-set}
use Rattle.std.proofs.lemmas.List.{take_all, take-append-le}
use Rattle.aes.specs.Keys.{expanded, key_expansion}
use Rattle.aes.proofs.KeyWords.{expanded_none, expanded_more, take_four, word_is}
use Rattle.aes.proofs.schedule.expand_key.Goals as goal

pub loop-i-init : goal.loop-i-init
loop-i-init c =
    let l = c.copy_from_slice.ensures.len in (
      simp length-append (omega arith),
      take-append-le 16 c.copy_from_slice.new.self _ (omega arith)
          ∙ take_all 16 c.copy_from_slice.new.self (omega arith)
          ∙ c.copy_from_slice.ensures.after
          ∙ sym (expanded_none c.args.key.now),
    )

pub loop-i-preserved : goal.loop-i-preserved
loop-i-preserved c =
    let w : List ℕ = c.loop-i.w in
    let i : ℕ = c.loop-i.i in
    let x : List ℕ = c.next_word.result in (
      simp length-set c.loop-i.invariant.0,
      take_four w (4 * i) (4 * (i + 1)) (get_or x 0 0) (get_or x 1 0) (get_or x 2 0) (get_or x 3 0) (omega arith) (omega arith)
          ∙ ap (λ y. take (4 * i) w ++ y) (word_is w i x c.next_word.ensures)
          ∙ expanded_more c.args.key.now w i c.loop-i.auto.i c.loop-i.invariant.1,
    )

pub returns : goal.returns
unfolding key_expansion
returns c =
    let e : c.loop-i.i ≡ 44 = omega arith in
    let f : take 176 c.loop-i.w ≡ expanded c.args.key.now 40 = rw e at c.loop-i.invariant.1 in
    sym (take_all 176 c.loop-i.w (omega arith)) ∙ f
