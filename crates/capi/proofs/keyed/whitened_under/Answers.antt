-- What is left to show of `capi::keyed::whitened_under`.
use Rattle.std.proofs.Common.{rules, ◌≡◌, ◌/◌, length, get_or, take, drop, List, ℕ, [], ap, ◌∙◌, arith, length-drop}
use Rattle.std.specs.Simd.{first_chunks}
use Rattle.std.proofs.lemmas.List.{drop-drop, take_all}
use Rattle.capi.proofs.keyed.whitened_under.Goals as goal

pub returns-clause-after : goal.returns-clause-after
returns-clause-after c =
    let key : List ℕ = c.args.key.now in
    let n : length (drop 16 key) ≡ 16 = omega (arith, length-drop {A = ℕ}) in
    let q : take 16 (drop 16 key) ≡ drop 16 key = take_all 16 (drop 16 key) (omega (arith, n)) in
    let l : length (take 16 (drop 16 key)) / 8 ≡ 2 = ap (λ (x : List ℕ). length x / 8) q ∙ ap (λ m. m / 8) n in
    let e : c.as_chunks.result.0.now ≡ first_chunks 8 2 (take 16 (drop 16 key)) = c.as_chunks.ensures.front ∙ ap (λ m. first_chunks 8 m (take 16 (drop 16 key))) l in
    let p : get_or c.as_chunks.result.0.now 1 [] ≡ take 8 (drop 24 key) =
    ap (λ (x : List (List ℕ)). get_or x 1 []) (e ∙ ap (first_chunks 8 2) q) ∙ ap (take 8) (drop-drop 8 16 key)
    in
    search (rules, p)
