-- What is left to show of `xtea::Xtea::new`.
use Rattle.std.proofs.Common.{rules, ◌≡◌, ◌/◌, length, get_or, List, ℕ, ap, ◌∙◌, arith, refl}
use Rattle.std.specs.Simd.{first_chunks}
use Rattle.std.proofs.lemmas.List.FromFn.{fill_by_all}
use Rattle.xtea.specs.Xtea.{word_at}
use Rattle.xtea.proofs.Xtea.new.Goals as goal

pub returns : goal.returns
returns c =
    let key : List ℕ = c.args.key.now in
    let l : length key / 4 ≡ 4 = omega arith in
    let e : c.as_chunks.result.0.now ≡ first_chunks 4 4 key = c.as_chunks.ensures.front ∙ ap (λ m. first_chunks 4 m key) l in
    let r = c.from_fn.ensures.items.each in
    let w0 : r.1 ≡ word_at key 0 = search (rules, e) in
    let w1 : r.4.1 ≡ word_at key 4 = search (rules, e) in
    let w2 : r.4.4.1 ≡ word_at key 8 = search (rules, e) in
    let w3 : r.4.4.4.1 ≡ word_at key 12 = search (rules, e) in
    fill_by_all (λ k. get_or c.from_fn.result k 0) c.from_fn.result 4 0 c.from_fn.ensures.items.long (λ k h. refl)
    ∙ simp (r.2.1 0 ∙ w0, r.4.2.1 0 ∙ w1, r.4.4.2.1 0 ∙ w2, r.4.4.4.2.1 0 ∙ w3)
