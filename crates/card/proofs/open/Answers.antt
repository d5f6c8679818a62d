-- Refused by one of the first three checks or at a sector; else every sector passed. On every way the outcome says whether the image is a card.
use Rattle.std.proofs.Common.{◌≡◌, ℕ, suc, ◌+◌, ◌-◌, [], Ok, Err, sym, refl, ap, ◌∙◌, arith}
use Rattle.std.proofs.lemmas.Result.{err_from_is_err_and}
use Rattle.kind.specs.Laws.{Bytes}
use Rattle.layout.specs.Checks.{verdict}
use Rattle.layout.specs.Layout.{count_of}
use Rattle.layout.proofs.Verdicts.{ruled_ok, ruled_on}
use Rattle.sector.specs.Rings.{ciphers_of}
use Rattle.sheet.specs.Sectors.{sectors}
use Rattle.sheet.specs.Promise.{opening, sector_checks}
use Rattle.sheet.specs.Images.{image_view, outcome_on}
use Rattle.sheet.specs.Parts.{ring_and_image_checks}
use Rattle.sheet.proofs.Lawful.{lawful_sectors}
use Rattle.sheet.proofs.Outcomes.{outcome_refused, sector_on, sector_refused}
use Rattle.sheet.proofs.Opens.{opened}
use Rattle.card.proofs.open.Goals as goal

pub returns-in_err-card-clause-opens : goal.returns-in_err-card-clause-opens
returns-in_err-card-clause-opens g c = λ ok.
    let S = sectors g.C.Block.Block.ops g.C.Cipher.enc g.C.Cipher.dec in
    let ring = ciphers_of c.args.ring.now in
    let image = c.args.image.now in
    let v = image_view S ring image in
    let law = lawful_sectors g.met.C.Block.Block.laws g.C.Cipher.enc g.C.Cipher.dec g.met.C.Cipher.back g.met.C.Cipher.forth in
    let f = c.in_err-card.field-0.0 in
    let p = err_from_is_err_and c.from_residual.result c.from_residual.ensures.1 in
    let e = sym (outcome_refused S ring image opening [] (ring_and_image_checks S ring v) _ (count_of S.width image) f refl tt c.in_err-card.ensures.outcome) in
    let b : Bytes image = λ k. (c.type_inv.image k).fits in
    rw (p.1, p.2) (opened S law ring ok image (Err f) b e)

pub returns-in_err-check : goal.returns-in_err-check
returns-in_err-check g c =
    let S = sectors g.C.Block.Block.ops g.C.Cipher.enc g.C.Cipher.dec in
    let ring = ciphers_of c.args.ring.now in
    let image = c.args.image.now in
    let v = image_view S ring image in
    let law = lawful_sectors g.met.C.Block.Block.laws g.C.Cipher.enc g.C.Cipher.dec g.met.C.Cipher.back g.met.C.Cipher.forth in
    let s = c.loop-sector.sector in
    let n = c.sectors-count.result in
    let f = c.in_err-check.field-0.0 in
    let p = err_from_is_err_and c.from_residual-in_err-check.result c.from_residual-in_err-check.ensures.1 in
    let o = ruled_ok (ring_and_image_checks S ring v) (count_of S.width image) c.in_ok-card.card.count (sym c.in_ok-card.ensures.outcome) in
    let m : n - s ≡ suc (n - s - 1) = omega arith in
    let e : Err f ≡ outcome_on S ring image opening =
    sym (ruled_on (ring_and_image_checks S ring v) (sector_checks S ring v 0 (count_of S.width image)) tt o.0
    ∙ ap (λ (j : ℕ). verdict (sector_checks S ring v 0 j)) (sym (c.sectors-count.ensures ∙ o.1))
    ∙ sym c.loop-sector.invariant
    ∙ ap (λ (j : ℕ). verdict (sector_checks S ring v s j)) m
    ∙ sector_refused S ring image v s (n - s - 1) f (rw (c.at.ensures.image, c.at.ensures.ring, c.at.ensures.number) at c.in_err-check.ensures)) in
    let b : Bytes image = λ k. (c.type_inv.image k).fits in
    rw (p.1, p.2) (record { outcome = e; opens = λ ok. opened S law ring ok image (Err f) b e })

pub loop-sector-preserved : goal.loop-sector-preserved
loop-sector-preserved g c =
    let S = sectors g.C.Block.Block.ops g.C.Cipher.enc g.C.Cipher.dec in
    let ring = ciphers_of c.args.ring.now in
    let image = c.args.image.now in
    let v = image_view S ring image in
    let s = c.loop-sector.sector in
    let n = c.sectors-count.result in
    let m : n - s ≡ suc (n - (s + 1)) = omega arith in
    let i : s + 1 ≡ suc s = omega arith in
    let o = ruled_ok (sector_checks S ring v s 1) tt tt (sym (rw (c.at.ensures.image, c.at.ensures.ring, c.at.ensures.number) at c.in_ok-check.ensures)) in
    ap (λ (k : ℕ). verdict (sector_checks S ring v k (n - (s + 1)))) i
    ∙ sym (sector_on S ring image v s (n - (s + 1)) o.0)
    ∙ ap (λ (j : ℕ). verdict (sector_checks S ring v s j)) (sym m)
    ∙ c.loop-sector.invariant

pub returns : goal.returns
returns g c =
    let S = sectors g.C.Block.Block.ops g.C.Cipher.enc g.C.Cipher.dec in
    let ring = ciphers_of c.args.ring.now in
    let image = c.args.image.now in
    let v = image_view S ring image in
    let law = lawful_sectors g.met.C.Block.Block.laws g.C.Cipher.enc g.C.Cipher.dec g.met.C.Cipher.back g.met.C.Cipher.forth in
    let s = c.loop-sector.sector in
    let n = c.sectors-count.result in
    let o = ruled_ok (ring_and_image_checks S ring v) (count_of S.width image) c.in_ok-card.card.count (sym c.in_ok-card.ensures.outcome) in
    let m : n - s ≡ 0 = omega arith in
    let e : Ok tt ≡ outcome_on S ring image opening =
    sym (ruled_on (ring_and_image_checks S ring v) (sector_checks S ring v 0 (count_of S.width image)) tt o.0
    ∙ ap (λ (j : ℕ). verdict (sector_checks S ring v 0 j)) (sym (c.sectors-count.ensures ∙ o.1))
    ∙ sym c.loop-sector.invariant
    ∙ ap (λ (j : ℕ). verdict (sector_checks S ring v s j)) m) in
    let b : Bytes image = λ k. (c.type_inv.image k).fits in
    record { outcome = e; opens = λ ok. opened S law ring ok image (Ok tt) b e }
