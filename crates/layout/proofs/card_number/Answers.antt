-- The block's bytes are those that it was loaded from.
use Rattle.std.proofs.Common.{◌≡◌, ℕ, ◌-◌, length, take, drop, ap, ◌∙◌, arith, length-drop, length-take}
use Rattle.layout.specs.Layout.{card_number_of}
use Rattle.layout.proofs.Bytes.{bytes_drop, bytes_take}
use Rattle.layout.proofs.card_number.Goals as goal

pub returns : goal.returns
returns g c =
    let F = g.K.Block.ops in
    let image = c.args.image.now in
    let number = card_number_of F.size image in
    let w : c.header_length.result - 2 ≡ F.size = omega (arith, c.header_length.ensures.value) in
    let l : length number ≡ F.size = simp (length-take, length-drop) (omega (arith, c.requires)) in
    ap F.bytes (c.load.ensures ∙ ap (λ (k : ℕ). F.block (take k (drop 2 image))) w)
    ∙ g.met.K.Block.laws.bytes_block number l (bytes_take F.size (drop 2 image) (bytes_drop 2 image (λ i. (c.type_inv.image i).fits)))
