-- A block is that of its bytes; search shows the rest.
use Rattle.std.proofs.Common.{◌≡◌, ap, sym, rules}
use Rattle.kind.specs.Laws.{bin}
use Rattle.sheet.specs.Sectors.{sector_tweak}
use Rattle.sheet.proofs.sector_tweak.Goals as goal

pub returns : goal.returns
returns g c =
    let F = g.K.Block.ops in
    let n = c.args.number in
    let s = c.args.sector in
    let is : F.add n (bin F s) ≡ sector_tweak F (F.bytes n) s = ap (λ b. F.add b (bin F s)) (sym (g.met.K.Block.laws.block_bytes n)) in
    search (rules, is)
