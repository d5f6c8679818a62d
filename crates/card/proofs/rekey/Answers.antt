-- Refused by one of the first three checks or by the sector under its old key; else the writing under the new key decides.
use Rattle.std.proofs.Common.{[], ◌∷◌, ◌++◌, List, ℕ, refl, sym, ap, ◌∙◌}
use Rattle.layout.specs.Checks.{Check}
use Rattle.layout.specs.Layout.{count_of, put_record}
use Rattle.layout.proofs.Verdicts.{ruled_ok}
use Rattle.sector.specs.Rings.{ciphers_of}
use Rattle.sheet.specs.Sectors.{sectors}
use Rattle.sheet.specs.Images.{image_view}
use Rattle.sheet.specs.Promise.{rekey, holds, sector_check, key_check, dead_check, record_of}
use Rattle.sheet.specs.Parts.{ring_and_image_checks, source_checks}
use Rattle.sheet.proofs.Outcomes.{acts_refused, done}
use Rattle.card.proofs.Fronts.{passed, both, accepted}
use Rattle.card.proofs.rekey.Goals as goal

pub returns-in_err-card : goal.returns-in_err-card
returns-in_err-card g c =
    let S = sectors g.C.Block.Block.ops g.C.Cipher.enc g.C.Cipher.dec in
    let ring = ciphers_of c.args.ring.now in
    let image = c.args.image.now in
    let v = image_view S ring image in
    acts_refused S ring image (rekey c.args.sector c.args.new_key) [] (ring_and_image_checks S ring v) _ (count_of S.width image) c.in_err-card.field-0.0 c.from_residual.result refl tt c.in_err-card.ensures.outcome c.from_residual.ensures.1

pub returns-in_err-_old_key : goal.returns-in_err-_old_key
returns-in_err-_old_key g c =
    let S = sectors g.C.Block.Block.ops g.C.Cipher.enc g.C.Cipher.dec in
    let ring = ciphers_of c.args.ring.now in
    let image = c.args.image.now in
    let v = image_view S ring image in
    let s = c.args.sector in
    let k = c.args.new_key in
    let is = c.in_ok-card.ensures.card in
    let own = c.in_ok-at.ensures.sector in
    let head = ring_and_image_checks S ring v in
    let front = passed head (count_of S.width image) c.in_ok-card.card.count c.in_ok-card.ensures.outcome in
    let there = passed (sector_check S ring v s ∷ []) tt tt (rw is.0 at c.in_ok-at.ensures.outcome) in
    let known = passed (key_check S ring v k ∷ []) tt tt (rw is.1 at c.in_ok-has_key.ensures) in
    let asked : List Check = sector_check S ring v s ∷ key_check S ring v k ∷ [] in
    acts_refused S ring image (rekey s k) (head ++ asked) (source_checks S ring v s) _ _ c.in_err-_old_key.field-0.0 c.from_residual-in_err-_old_key.result refl
    (both head asked front (both (sector_check S ring v s ∷ []) (key_check S ring v k ∷ []) there known))
    (rw (own.0, own.1, own.2, is.0, is.1) at c.in_err-_old_key.ensures.text) c.from_residual-in_err-_old_key.ensures.1

pub returns : goal.returns
returns g c =
    let S = sectors g.C.Block.Block.ops g.C.Cipher.enc g.C.Cipher.dec in
    let ring = ciphers_of c.args.ring.now in
    let image = c.args.image.now in
    let v = image_view S ring image in
    let s = c.args.sector in
    let k = c.args.new_key in
    let is = c.in_ok-card.ensures.card in
    let own = c.in_ok-at.ensures.sector in
    let head = ring_and_image_checks S ring v in
    let front = passed head (count_of S.width image) c.in_ok-card.card.count c.in_ok-card.ensures.outcome in
    let there = passed (sector_check S ring v s ∷ []) tt tt (rw is.0 at c.in_ok-at.ensures.outcome) in
    let known = passed (key_check S ring v k ∷ []) tt tt (rw is.1 at c.in_ok-has_key.ensures) in
    let source = ruled_ok (source_checks S ring v s) _ _ (sym (rw (own.0, own.1, own.2, is.0, is.1) at c.in_ok-_old_key.ensures.text)) in
    let alive = ruled_ok (dead_check S ring v s k ∷ []) _ _ (sym (rw (own.0, own.1, own.2, is.0, is.1) at c.in_ok-record.ensures)) in
    let rest : List Check = source_checks S ring v s ++ (dead_check S ring v s k ∷ []) in
    let asked : List Check = sector_check S ring v s ∷ key_check S ring v k ∷ [] in
    done S ring image (rekey s k) c.put_record.new.image
    (accepted S ring image (rekey s k) (head ++ (asked ++ rest)) refl
    (both head (asked ++ rest) front (both asked rest (both (sector_check S ring v s ∷ []) (key_check S ring v k ∷ []) there known) (both (source_checks S ring v s) (dead_check S ring v s k ∷ []) source.0 alive.0))))
    (c.put_record.ensures ∙ ap (put_record S.width image s) (alive.1 ∙ ap (λ (t : ℕ × List ℕ). record_of S ring v.number s (holds k t.1)) source.1))
