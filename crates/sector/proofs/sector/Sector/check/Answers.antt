-- The outcome of a sealed record is that of its tweak, with the place added.
use Rattle.std.proofs.Common.{length, rules}
use Rattle.layout.specs.Layout.{card_number_of, record_at}
use Rattle.sector.specs.Rings.{ciphers_of}
use Rattle.sector.proofs.Sources.{on_ring, dead_is}
use Rattle.sector.proofs.sector.Sector.check.Goals as goal

pub returns-in-Sealed : goal.returns-in-Sealed
returns-in-Sealed g c =
    let F = g.C.Block.Block.ops in
    let ring = ciphers_of c.args.self.now.ring.now in
    let image = c.args.self.now.image.now in
    let s = c.args.self.now.number in
    let k = c.in-Sealed.key in
    let f = rw (c.in-Sealed.is, c.size.ensures, c.record-record.ensures) at c.in_ok-entry_of.ensures in
    let l = on_ring (length ring) (record_at F.size image s) k f.1 f.2 in
    let d = dead_is F g.C.Cipher.enc g.C.Cipher.dec ring k c.sealer.result.cipher.now (card_number_of F.size image) s c.sealer.result.tweak l c.sealer.ensures.cipher c.sealer.ensures.tweak in
    rw (f.0, f.1, ← f.2, d) (search rules)
