-- The four writes leave the blank card.
use Rattle.std.proofs.Common.{◌≡◌, ℕ, ◌+◌, ◌-◌, ◌*◌, ◌&&◌, eqb, leb, List, length, set, ap, ◌∙◌, arith}
use borrow.Rule.Slice.PartMut.{put_mid}
use Rattle.std.proofs.lemmas.Bool.{and_parts, eqb-true}
use Rattle.layout.specs.Layout.{count_of}
use Rattle.layout.proofs.Cuts.{formatted}
use Rattle.layout.proofs.clear.Goals as goal

pub returns : goal.returns
returns g c =
    let image = c.args.image.now in
    let w = g.K.Block.ops.size in
    let k = count_of w image in
    let h = c.header_length.result in
    let l : length image ≡ 2 + w + 514 * k = eqb-true (length image) (2 + w + 514 * k) (and_parts (eqb (length image) (2 + w + 514 * k)) (leb 1 k && leb k 65535) c.requires).0 in
    let m : h - 2 ≡ w = omega (arith, c.header_length.ensures.value) in
    ap (λ (j : ℕ). put_mid 2 (h - 2) (set (set c.fill.new.self 0 67) 1 j) c.store.new.into) c.kind_code.ensures
    ∙ ap (λ (t : List ℕ). put_mid 2 (h - 2) (set (set c.fill.new.self 0 67) 1 w) t) c.store.ensures
    ∙ ap (λ (t : List ℕ). put_mid 2 (h - 2) (set (set t 0 67) 1 w) (g.K.Block.ops.bytes c.args.number)) (c.fill.ensures.after (λ y p. p))
    ∙ formatted (g.K.Block.ops.bytes c.args.number) (length image) w (h - 2) (514 * k) l m
