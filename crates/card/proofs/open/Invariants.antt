-- What is left to check gives what all would give.
use Rattle.std.proofs.Common.{◌≡◌, ◌-◌}
use Rattle.layout.specs.Checks.{verdict}
use Rattle.sector.specs.Rings.{ciphers_of}
use Rattle.sheet.specs.Sectors.{sectors}
use Rattle.sheet.specs.Promise.{sector_checks}
use Rattle.sheet.specs.Images.{image_view}
use Rattle.card.proofs.open.Given as goal

abbrev pub invariant-loop-sector : goal.invariant-loop-sector
invariant-loop-sector g l =
    let S = sectors g.C.Block.Block.ops g.C.Cipher.enc g.C.Cipher.dec in
    let v = image_view S (ciphers_of l.fn.ring) l.fn.image in
    verdict (sector_checks S (ciphers_of l.fn.ring) v l.sector (l.count - l.sector)) ≡ verdict (sector_checks S (ciphers_of l.fn.ring) v 0 l.count)
