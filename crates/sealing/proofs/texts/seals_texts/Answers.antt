-- for every cipher, from its two laws
use Rattle.sealing.proofs.Lawfuls.{lawful, decided}
use Rattle.sealing.proofs.texts.seals_texts.Goals as goal

pub returns : goal.returns
returns g c =
    record {
      lawful = lawful g.met.C.Block.Block.laws g.C.Cipher.enc g.C.Cipher.dec (λ k. record { DE = g.met.C.Cipher.back k; ED = g.met.C.Cipher.forth k });
      decided = decided g.met.C.Block.Block.laws g.C.Cipher.enc g.C.Cipher.dec (λ k. record { DE = g.met.C.Cipher.back k; ED = g.met.C.Cipher.forth k });
    }
