-- The outcome is that of sealing the text, with the place added; accepted, the record is the sealed one.
use Rattle.std.proofs.Common.{rules}
use Rattle.layout.specs.Layout.{card_number_of}
use Rattle.sector.specs.Rings.{ciphers_of}
use Rattle.sector.proofs.Sources.{dead_is, sealed_is}
use Rattle.sector.proofs.sector.Sector.sealed_record.Goals as goal

pub returns-in_err-at : goal.returns-in_err-at
returns-in_err-at g c =
    let F = g.C.Block.Block.ops in
    let ring = ciphers_of c.args.self.now.ring.now in
    let number = card_number_of F.size c.args.self.now.image.now in
    let d = dead_is F g.C.Cipher.enc g.C.Cipher.dec ring c.args.key c.sealer.result.cipher.now number c.args.self.now.number c.sealer.result.tweak c.requires.on_ring c.sealer.ensures.cipher c.sealer.ensures.tweak in
    rw d (search rules)

pub returns : goal.returns
returns g c =
    let F = g.C.Block.Block.ops in
    let ring = ciphers_of c.args.self.now.ring.now in
    let number = card_number_of F.size c.args.self.now.image.now in
    let d = dead_is F g.C.Cipher.enc g.C.Cipher.dec ring c.args.key c.sealer.result.cipher.now number c.args.self.now.number c.sealer.result.tweak c.requires.on_ring c.sealer.ensures.cipher c.sealer.ensures.tweak in
    let x = sealed_is F g.C.Cipher.enc g.C.Cipher.dec ring c.args.key c.sealer.result.cipher.now number c.args.self.now.number c.sealer.result.tweak c.requires.on_ring c.sealer.ensures.cipher c.sealer.ensures.tweak c.args.text.now in
    rw (d, x) (search rules)
