-- Refused by the tweak, or written.
use Rattle.std.proofs.Common.{[], ◌∷◌, ◌++◌, List, ℕ, refl, sym, ap, ◌∙◌}
use Rattle.layout.specs.Checks.{Check}
use Rattle.layout.specs.Layout.{count_of, put_record}
use Rattle.layout.proofs.Verdicts.{ruled_ok}
use Rattle.sector.specs.Rings.{ciphers_of}
use Rattle.sheet.specs.Sectors.{sectors}
use Rattle.sheet.specs.Images.{image_view}
use Rattle.sheet.specs.Promise.{write, holds, sector_check, key_check, text_check, dead_check, record_of}
use Rattle.sheet.specs.Parts.{ring_and_image_checks}
use Rattle.sheet.proofs.Outcomes.{acts_refused, done}
use Rattle.card.proofs.Fronts.{passed, both, accepted, text_passes, inside}
use Rattle.card.proofs.write.Goals as goal

pub returns-in_err-record : goal.returns-in_err-record
returns-in_err-record g c =
    let S = sectors g.C.Block.Block.ops g.C.Cipher.enc g.C.Cipher.dec in
    let ring = ciphers_of c.args.ring.now in
    let image = c.args.image.now in
    let v = image_view S ring image in
    let s = c.args.sector in
    let k = c.args.key in
    let t = c.args.text.now in
    let is = c.in_ok-card.ensures.card in
    let own = c.in_ok-at.ensures.sector in
    let head = ring_and_image_checks S ring v in
    let front = passed head (count_of S.width image) c.in_ok-card.card.count c.in_ok-card.ensures.outcome in
    let there = passed (sector_check S ring v s ∷ []) tt tt (rw is.0 at c.in_ok-at.ensures.outcome) in
    let known = passed (key_check S ring v k ∷ []) tt tt (rw is.1 at c.in_ok-has_key.ensures) in
    let chunk = rw c.unwrap.ensures at c.as_array.ensures.cases in
    let asked : List Check = sector_check S ring v s ∷ key_check S ring v k ∷ text_check S ring v t ∷ [] in
    let whole = both (sector_check S ring v s ∷ []) (key_check S ring v k ∷ text_check S ring v t ∷ []) there (both (key_check S ring v k ∷ []) (text_check S ring v t ∷ []) known (text_passes S ring image t chunk.long)) in
    let last : List Check = dead_check S ring v s k ∷ [] in
    acts_refused S ring image (write s k t) (head ++ asked) last [] _ c.in_err-record.field-0.0 c.from_residual-in_err-record.result refl
    (both head asked front whole) (rw (own.0, own.1, own.2, is.0, is.1) at c.in_err-record.ensures) c.from_residual-in_err-record.ensures.1

pub put_record-requires : goal.put_record-requires
put_record-requires g c =
    let S = sectors g.C.Block.Block.ops g.C.Cipher.enc g.C.Cipher.dec in
    let ring = ciphers_of c.args.ring.now in
    let image = c.args.image.now in
    let v = image_view S ring image in
    let s = c.args.sector in
    let is = c.in_ok-card.ensures.card in
    let there = passed (sector_check S ring v s ∷ []) tt tt (rw is.0 at c.in_ok-at.ensures.outcome) in
    inside S ring image c.in_ok-card.card.count s (rw is.0 at c.in_ok-card.card.fits) there

pub returns : goal.returns
returns g c =
    let S = sectors g.C.Block.Block.ops g.C.Cipher.enc g.C.Cipher.dec in
    let ring = ciphers_of c.args.ring.now in
    let image = c.args.image.now in
    let v = image_view S ring image in
    let s = c.args.sector in
    let k = c.args.key in
    let t = c.args.text.now in
    let is = c.in_ok-card.ensures.card in
    let own = c.in_ok-at.ensures.sector in
    let head = ring_and_image_checks S ring v in
    let front = passed head (count_of S.width image) c.in_ok-card.card.count c.in_ok-card.ensures.outcome in
    let there = passed (sector_check S ring v s ∷ []) tt tt (rw is.0 at c.in_ok-at.ensures.outcome) in
    let known = passed (key_check S ring v k ∷ []) tt tt (rw is.1 at c.in_ok-has_key.ensures) in
    let chunk = rw c.unwrap.ensures at c.as_array.ensures.cases in
    let asked : List Check = sector_check S ring v s ∷ key_check S ring v k ∷ text_check S ring v t ∷ [] in
    let whole = both (sector_check S ring v s ∷ []) (key_check S ring v k ∷ text_check S ring v t ∷ []) there (both (key_check S ring v k ∷ []) (text_check S ring v t ∷ []) known (text_passes S ring image t chunk.long)) in
    let last : List Check = dead_check S ring v s k ∷ [] in
    let alive = ruled_ok last _ _ (sym (rw (own.0, own.1, own.2, is.0, is.1) at c.in_ok-record.ensures)) in
    done S ring image (write s k t) c.put_record.new.image
    (accepted S ring image (write s k t) (head ++ (asked ++ last)) refl (both head (asked ++ last) front (both asked last whole alive.0)))
    (c.put_record.ensures ∙ ap (put_record S.width image s) (alive.1 ∙ ap (λ (x : List ℕ). record_of S ring v.number s (holds k x)) chunk.same))
