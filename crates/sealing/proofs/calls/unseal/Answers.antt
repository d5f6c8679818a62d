-- what an accepted beginning leaves
use Rattle.std.proofs.Common.{rules, ◌≡◌, ◌/◌, length}
use Rattle.passes.specs.Rows.{on_blocks}
use Rattle.passes.proofs.Walked.{on_buffer}
use Rattle.sealing.specs.Mode.{left, unsealing, maps, begun, unsealed}
use Rattle.sealing.proofs.Checks.{outcome_ok}
use Rattle.sealing.proofs.Trips.{promised}
use Rattle.sealing.proofs.calls.unseal.Goals as goal

pub returns-in_err-terms-clause-promises : goal.returns-in_err-terms-clause-promises
returns-in_err-terms-clause-promises g c = promised g.met.C.Block.Block.laws g.C.Cipher.enc g.C.Cipher.dec g.met.C.Cipher.back g.met.C.Cipher.forth c.args.cipher.now

pub returns-clause-leaves : goal.returns-clause-leaves
returns-clause-leaves g c =
    let F = g.C.Block.Block.ops in
    let k = c.args.cipher.now in
    let m = maps g.C.Cipher.enc g.C.Cipher.dec k in
    let T = c.args.tweak.now in
    let bs = c.args.buffer.now in
    let new = c.unseal_blocks.new.work.bytes.now in
    let made : new ≡ left (unsealing F m T bs) bs =
    (outcome_ok F (length T) (length bs) (F.inverse (m.E (F.block T))) (λ L. (begun F m (F.block T) (length bs / F.size), L)) (λ p. on_blocks F p.0.m (unsealed F m p.0 p.1) bs)
    (c.in_ok-terms.terms, c.in_ok-terms.l) bs new c.in_ok-terms.ensures.outcome
    (on_buffer (λ r t. unsealed F (maps g.C.Cipher.enc g.C.Cipher.dec r) t c.in_ok-terms.l) c.on-work.result c.unseal_blocks.new.work k c.in_ok-terms.terms bs
    c.on-work.ensures.cipher c.on-work.ensures.terms c.on-work.ensures.bytes c.unseal_blocks.ensures)).1 in
    search (rules, made)

pub returns-clause-promises : goal.returns-clause-promises
returns-clause-promises g c = promised g.met.C.Block.Block.laws g.C.Cipher.enc g.C.Cipher.dec g.met.C.Cipher.back g.met.C.Cipher.forth c.args.cipher.now
