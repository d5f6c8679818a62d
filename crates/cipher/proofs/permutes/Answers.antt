-- What is left to show of `cipher::permutes`.
use Rattle.cipher.proofs.Permuting.{permuting}
use Rattle.cipher.proofs.permutes.Goals as goal

pub returns : goal.returns
returns g c =
    let k = c.args.cipher.now in
    let enc = g.C.Cipher.enc k in
    let dec = g.C.Cipher.dec k in
    let back = g.met.C.Cipher.back k in
    let forth = g.met.C.Cipher.forth k in
    record { encryption = permuting enc dec back forth; decryption = permuting dec enc forth back }
