-- the product with the powers is the first pass
use Rattle.passes.specs.Scheme.{times_powers}
use Rattle.passes.proofs.Walked.{as_change}
use Rattle.sealing.specs.Mode.{maps, first_pass}
use Rattle.sealing.proofs.Agree.{first_agrees}
use Rattle.sealing.proofs.blocks.first_pass.Goals as goal

pub returns : goal.returns
returns g c =
    let F = g.C.Block.Block.ops in
    let old = c.args.work.now in
    let k = maps g.C.Cipher.enc g.C.Cipher.dec old.cipher.now in
    let t = old.terms.now in
    as_change (first_pass F k t) (times_powers F t.r) old c.multiply_by_powers.new.self (first_agrees g.met.C.Block.Block.laws k t) c.multiply_by_powers.ensures
