-- Refused by the sector itself; search shows the rest.
use Rattle.std.proofs.Common.{[], ◌∷◌, ◌++◌, List, refl, arith}
use Rattle.layout.specs.Checks.{Check}
use Rattle.layout.specs.Layout.{count_of}
use Rattle.sector.specs.Rings.{ciphers_of}
use Rattle.sheet.specs.Sectors.{sectors}
use Rattle.sheet.specs.Images.{image_view}
use Rattle.sheet.specs.Promise.{sector_check, text_check}
use Rattle.sheet.specs.Parts.{ring_and_image_checks, source_checks}
use Rattle.sheet.proofs.Outcomes.{reads_refused}
use Rattle.card.proofs.Fronts.{passed, both, text_passes}
use Rattle.card.proofs.read.Goals as goal

pub returns-in_err-text : goal.returns-in_err-text
returns-in_err-text g c =
    let S = sectors g.C.Block.Block.ops g.C.Cipher.enc g.C.Cipher.dec in
    let ring = ciphers_of c.args.ring.now in
    let image = c.args.image.now in
    let v = image_view S ring image in
    let s = c.args.sector in
    let b = c.args.buffer.now in
    let is = c.in_ok-card.ensures.card in
    let own = c.in_ok-at.ensures.sector in
    let head = ring_and_image_checks S ring v in
    let front = passed head (count_of S.width image) c.in_ok-card.card.count c.in_ok-card.ensures.outcome in
    let there = passed (sector_check S ring v s ∷ []) tt tt (rw is.0 at c.in_ok-at.ensures.outcome) in
    let long = text_passes S ring image b (omega arith) in
    let asked : List Check = sector_check S ring v s ∷ text_check S ring v b ∷ [] in
    reads_refused S ring image s b (head ++ asked) (source_checks S ring v s) [] _ c.in_err-text.field-0.0 c.from_residual-in_err-text.result refl
    (both head asked front (both (sector_check S ring v s ∷ []) (text_check S ring v b ∷ []) there long))
    (rw (own.0, own.1, own.2, is.0, is.1) at c.in_err-text.ensures.text) c.from_residual-in_err-text.ensures.1
