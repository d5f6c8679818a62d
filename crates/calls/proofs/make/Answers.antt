-- Each call as the list's promise reads it; search shows the others.
use Rattle.std.proofs.Common.{◌≡◌, length, vec_items, refl, ap, arith}
use Rattle.kind.specs.Laws.{Bytes}
use Rattle.sector.specs.Rings.{ciphers_of}
use Rattle.sheet.specs.Sectors.{sectors}
use Rattle.sheet.specs.Promise.{format, read, erase}
use Rattle.calls.specs.Runs.{call_of, answered}
use Rattle.calls.proofs.Making.{made, read_answer, read_after, back_in}
use Rattle.calls.proofs.make.Goals as goal

pub returns-in-Format : goal.returns-in-Format
returns-in-Format g c =
    let S = sectors g.C.Block.Block.ops g.C.Cipher.enc g.C.Cipher.dec in
    let ring = ciphers_of c.args.ring.now in
    let image = c.args.image.now in
    let n = vec_items c.in-Format.number in
    let acts = rw c.as_slice-in-Format.ensures.value at (c.format.ensures ring) in
    let bytes : Bytes n = rw c.as_slice.ensures.value at c.are_bytes.ensures in
    made S ring image c.args.call.now _ c.format.result c.format.new.image (format n) (format n)
    (ap call_of c.in-Format.is) refl bytes (ap (answered (format n)) acts.outcome) acts.image_is refl

pub returns-in-Read : goal.returns-in-Read
returns-in-Read g c =
    let S = sectors g.C.Block.Block.ops g.C.Cipher.enc g.C.Cipher.dec in
    let ring = ciphers_of c.args.ring.now in
    let image = c.args.image.now in
    let s = c.in-Read.sector in
    let b = vec_items c.in-Read.buffer in
    let reads = rw c.as_mut_slice.ensures.value at c.read.ensures in
    let bytes : Bytes b = rw c.as_slice-in-Read.ensures.value at c.are_bytes-in-Read.ensures in
    let long : length c.read.new.buffer ≡ c.in-Read.buffer.len = omega (arith, c.read.auto.buffer, c.as_mut_slice.ensures.len) in
    let e = back_in c.in-Read.buffer.len c.read.new.buffer c.in-Read.buffer.items long in
    made S ring image c.args.call.now _ c.read.result image (read s b) (read s c.read.new.buffer)
    (ap call_of c.in-Read.is) (ap (read s) e) bytes (read_answer S ring image s b c.read.result c.read.new.buffer reads) (read_after S ring image s b) refl

pub returns-in-Erase : goal.returns-in-Erase
returns-in-Erase g c =
    let S = sectors g.C.Block.Block.ops g.C.Cipher.enc g.C.Cipher.dec in
    let ring = ciphers_of c.args.ring.now in
    let image = c.args.image.now in
    let s = c.in-Erase.sector in
    let acts = c.erase.ensures ring in
    made S ring image c.args.call.now _ c.erase.result c.erase.new.image (erase s) (erase s)
    (ap call_of c.in-Erase.is) refl tt (ap (answered (erase s)) acts.outcome) acts.image_is refl
