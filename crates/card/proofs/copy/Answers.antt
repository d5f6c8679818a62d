-- Refused by one of the first three checks or by the source; else the writing at the destination decides.
use Rattle.std.proofs.Common.{subst, [], ◌∷◌, ◌++◌, List, ℕ, refl, sym, ap, ◌∙◌}
use Rattle.layout.specs.Checks.{Check}
use Rattle.layout.specs.Layout.{count_of, put_record}
use Rattle.layout.proofs.Verdicts.{Passed, ruled_ok}
use Rattle.sector.specs.Rings.{ciphers_of}
use Rattle.sheet.specs.Sectors.{sectors}
use Rattle.sheet.specs.Images.{image_view}
use Rattle.sheet.specs.Promise.{copy, holds, sector_check, dead_check, record_of, key_of}
use Rattle.sheet.specs.Parts.{ring_and_image_checks, source_checks}
use Rattle.sheet.proofs.Outcomes.{acts_refused, done}
use Rattle.card.proofs.Fronts.{passed, both, accepted}
use Rattle.card.proofs.copy.Goals as goal

pub returns-in_err-card : goal.returns-in_err-card
returns-in_err-card g c =
    let S = sectors g.C.Block.Block.ops g.C.Cipher.enc g.C.Cipher.dec in
    let ring = ciphers_of c.args.ring.now in
    let image = c.args.image.now in
    let v = image_view S ring image in
    acts_refused S ring image (copy c.args.source c.args.destination) [] (ring_and_image_checks S ring v) _ (count_of S.width image) c.in_err-card.field-0.0 c.from_residual.result refl tt c.in_err-card.ensures.outcome c.from_residual.ensures.1

pub returns-in_err-key : goal.returns-in_err-key
returns-in_err-key g c =
    let S = sectors g.C.Block.Block.ops g.C.Cipher.enc g.C.Cipher.dec in
    let ring = ciphers_of c.args.ring.now in
    let image = c.args.image.now in
    let v = image_view S ring image in
    let s = c.args.source in
    let d = c.args.destination in
    let is = c.in_ok-card.ensures.card in
    let from = c.in_ok-from.ensures.sector in
    let head = ring_and_image_checks S ring v in
    let front = passed head (count_of S.width image) c.in_ok-card.card.count c.in_ok-card.ensures.outcome in
    let there = passed (sector_check S ring v s ∷ []) tt tt (rw is.0 at c.in_ok-from.ensures.outcome) in
    let also = passed (sector_check S ring v d ∷ []) tt tt (rw is.0 at c.in_ok-to.ensures.outcome) in
    let asked : List Check = sector_check S ring v s ∷ sector_check S ring v d ∷ [] in
    acts_refused S ring image (copy s d) (head ++ asked) (source_checks S ring v s) _ _ c.in_err-key.field-0.0 c.from_residual-in_err-key.result refl
    (both head asked front (both (sector_check S ring v s ∷ []) (sector_check S ring v d ∷ []) there also))
    (rw (from.0, from.1, from.2, is.0, is.1) at c.in_err-key.ensures.text) c.from_residual-in_err-key.ensures.1

pub returns : goal.returns
returns g c =
    let S = sectors g.C.Block.Block.ops g.C.Cipher.enc g.C.Cipher.dec in
    let ring = ciphers_of c.args.ring.now in
    let image = c.args.image.now in
    let v = image_view S ring image in
    let s = c.args.source in
    let d = c.args.destination in
    let is = c.in_ok-card.ensures.card in
    let from = c.in_ok-from.ensures.sector in
    let to = c.in_ok-to.ensures.sector in
    let head = ring_and_image_checks S ring v in
    let front = passed head (count_of S.width image) c.in_ok-card.card.count c.in_ok-card.ensures.outcome in
    let there = passed (sector_check S ring v s ∷ []) tt tt (rw is.0 at c.in_ok-from.ensures.outcome) in
    let also = passed (sector_check S ring v d ∷ []) tt tt (rw is.0 at c.in_ok-to.ensures.outcome) in
    let source = ruled_ok (source_checks S ring v s) _ _ (sym (rw (from.0, from.1, from.2, is.0, is.1) at c.in_ok-key.ensures.text)) in
    let alive = ruled_ok (dead_check S ring v d c.in_ok-key.key ∷ []) _ _ (sym (rw (to.0, to.1, to.2, is.0, is.1) at c.in_ok-record.ensures)) in
    let last : Passed (dead_check S ring v d (key_of (v.sector s)) ∷ []) = subst (λ (j : ℕ). Passed (dead_check S ring v d j ∷ [])) (ap (λ (t : ℕ × List ℕ). t.0) source.1) alive.0 in
    let rest : List Check = source_checks S ring v s ++ (dead_check S ring v d (key_of (v.sector s)) ∷ []) in
    let asked : List Check = sector_check S ring v s ∷ sector_check S ring v d ∷ [] in
    done S ring image (copy s d) c.put_record.new.image
    (accepted S ring image (copy s d) (head ++ (asked ++ rest)) refl
    (both head (asked ++ rest) front (both asked rest (both (sector_check S ring v s ∷ []) (sector_check S ring v d ∷ []) there also) (both (source_checks S ring v s) (dead_check S ring v d (key_of (v.sector s)) ∷ []) source.0 last))))
    (c.put_record.ensures ∙ ap (put_record S.width image d) (alive.1 ∙ ap (λ (t : ℕ × List ℕ). record_of S ring v.number d (holds t.0 t.1)) source.1))
