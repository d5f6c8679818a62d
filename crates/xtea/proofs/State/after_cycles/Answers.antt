-- What is left to show of `xtea::State::after_cycles`.
use Rattle.std.proofs.Common.{◌≡◌, ◌+◌, ◌++◌, ◌∷◌, [], rules, List, ℕ, length, refl, ◌∙◌, ap, sym, length-append}
use Rattle.std.proofs.iter.Yields.{nat_range_steps}
use Rattle.std.proofs.lemmas.Fn.{fold_over}
use Rattle.std.proofs.lemmas.Iterator.{YieldsList-from_range}
use Rattle.std.specs.List.{range_with_len}
use Rattle.xtea.specs.declared.State.{State}
use Rattle.xtea.specs.Repeat.{repeat}
use Rattle.xtea.specs.Repeated.{repeat_none, repeat_more}
use Rattle.xtea.proofs.State.after_cycles.Goals as goal

pub returns : goal.returns
returns g c = λ turn acts.
    let start = YieldsList-from_range 0 32 32 refl refl in
    fold_over nat_range_steps (λ x. x) _ (λ (ys : List ℕ) (w : State). w ≡ repeat turn (length ys) c.args.self) _
    (λ ys w x r f e k.
    let one : r ≡ turn w = search (rules, acts) in
    let l : length (ys ++ x ∷ []) ≡ length ys + 1 = simp length-append in
    (one ∙ ap turn e ∙ sym (repeat_more turn (length ys) c.args.self) ∙ ap (λ n. repeat turn n c.args.self) (sym l), search rules))
    (record { start = 0; end = 32 }) (range_with_len 0 32) c.args.self c.fold.result start.runs (sym (repeat_none turn c.args.self)) c.fold.ensures.ran
