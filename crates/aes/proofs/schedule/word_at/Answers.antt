-- What is left to show of `aes::schedule::word_at`.
use Rattle.std.proofs.Common.{◌*◌, ◌+◌, ◌∙◌, ap, length-drop, add-zero, arith, List, ℕ, take, drop, get_or, []}
use Rattle.std.proofs.lemmas.List.{length-take-le}
use Rattle.std.proofs.lemmas.List.FromFn.{fill_by_all, get_or-map-range_with_len}
use Rattle.aes.proofs.RoundKeys.{chunks_are, chunk_byte}
use Rattle.aes.proofs.schedule.word_at.Goals as goal

pub returns : goal.returns
returns c =
    let w : List ℕ = c.args.w.now in
    let i : ℕ = c.args.i in
    let e = chunks_are 4 44 w c.as_chunks.result.0.now (omega arith) c.as_chunks.ensures.front in
    ap (λ (x : List (List ℕ)). get_or x i []) e
    ∙ get_or-map-range_with_len (λ j. take 4 (drop (4 * j) w)) 0 44 i i [] (omega arith) (omega arith)
    ∙ fill_by_all (λ k. get_or w (4 * i + k) 0) (take 4 (drop (4 * i) w)) 4 0
    (length-take-le 4 (drop (4 * i) w) (omega (arith, length-drop {A = ℕ}))) (λ k h. chunk_byte 4 (4 * i) w k h)
    ∙ simp add-zero
