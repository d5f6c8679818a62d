-- The call's answer and the definition both say that every byte is zero.
use Rattle.std.proofs.Common.{eqb, ◌&&◌, refl, ◌∙◌, rules, tests}
use Rattle.std.specs.List.{list_all}
use Rattle.std.proofs.lemmas.Iterator.{YieldsList-from_slice}
use Rattle.std.proofs.lemmas.Iterator.Search.{all_from_yields_List}
use Rattle.std.proofs.lemmas.List.Recursion.{same_from_clauses}
use Rattle.layout.specs.Layout.{zeros}
use Rattle.layout.proofs.all_zero.Goals as goal

pub returns : goal.returns
returns c =
    let xs = c.args.bytes.now in
    all_from_yields_List (λ b. eqb b 0) _ _ c.all.result c.all.ensures.ran (YieldsList-from_slice xs cc) (λ x b q k. search (rules, tests))
    ∙ same_from_clauses (list_all (λ b. eqb b 0)) zeros (λ x t. eqb x 0 && t) refl (λ _ _. refl) (λ _ _. refl) xs
