-- The ciphers in front are those of the keys.
use Rattle.std.proofs.Common.{arith}
use Rattle.cardapi.proofs.Eights.{ring_of}
use Rattle.cardapi.proofs.rings.ciphers_of.Goals as goal

pub returns : goal.returns
returns g c =
    ring_of g.C.Keyed.held g.C.Keyed.made c.args.keys.now _ (omega (arith, c.requires))
    (λ e. (c.cipher_at.ensures e, (c.cipher_at-2.ensures e, (c.cipher_at-3.ensures e, (c.cipher_at-4.ensures e, (c.cipher_at-5.ensures e, (c.cipher_at-6.ensures e, (c.cipher_at-7.ensures e, (c.cipher_at-8.ensures e, tt)))))))))
