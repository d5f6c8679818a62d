-- the masks that run along are those of the scheme: at one block, at two, and from three up
use Rattle.std.proofs.Common.{◌≡◌, ap, ◌∙◌, arith}
use Rattle.kind.specs.Blocks.{blocks}
use Rattle.passes.specs.Scheme.{mask, masked, with_masks, value}
use Rattle.passes.proofs.Walked.{as_change_here, pair_over, few_mask, pair_mask, many_over, mask_value}
use Rattle.passes.proofs.work.Work.add_masks.Goals as goal

pub returns-then-m-le1 : goal.returns-then-m-le1
returns-then-m-le1 g c =
    let F = g.C.Block.Block.ops in
    let law = g.met.C.Block.Block.laws in
    let old = c.args.self.now in
    let t = old.terms.now in
    let ks = blocks F t.m old.bytes.now in
    let M = value F (g.C.Cipher.enc old.cipher.now) c.args.end ks in
    let few = few_mask law t c.args.single M (omega arith) in
    as_change_here (masked F (g.C.Cipher.enc old.cipher.now) (mask F t c.args.single) c.args.end) _ old c.walk.new.self
    (λ l. pair_over law (mask F t c.args.single M) _ ks (omega arith) (few 0) (few 1)) c.walk.ensures

pub returns-then-m-eq2 : goal.returns-then-m-eq2
returns-then-m-eq2 g c =
    let F = g.C.Block.Block.ops in
    let law = g.met.C.Block.Block.laws in
    let old = c.args.self.now in
    let E = g.C.Cipher.enc old.cipher.now in
    let t = old.terms.now in
    let ks = blocks F t.m old.bytes.now in
    let M = c.encrypt-value.result in
    let is : M ≡ value F E c.args.end ks = mask_value F E ks c.args.end c.total.result c.add.result M c.total.ensures c.add.ensures c.encrypt-value.ensures in
    let pair = pair_mask law t c.args.single M (omega arith) in
    as_change_here (masked F E (mask F t c.args.single) c.args.end) _ old c.walk-then-m-eq2.new.self
    (λ l. pair_over law (mask F t c.args.single M) _ ks (omega arith) (c.add-first.ensures ∙ pair 0) (c.add-second.ensures ∙ pair 1)
    ∙ ap (λ v. with_masks F (mask F t c.args.single v) ks) is) c.walk-then-m-eq2.ensures

pub returns : goal.returns
returns g c =
    let F = g.C.Block.Block.ops in
    let law = g.met.C.Block.Block.laws in
    let old = c.args.self.now in
    let E = g.C.Cipher.enc old.cipher.now in
    let t = old.terms.now in
    let ks = blocks F t.m old.bytes.now in
    let M = c.encrypt-value.result in
    let is : M ≡ value F E c.args.end ks = mask_value F E ks c.args.end c.total.result c.add.result M c.total.ensures c.add.ensures c.encrypt-value.ensures in
    as_change_here (masked F E (mask F t c.args.single) c.args.end) _ old c.walk-2.new.self
    (λ l. many_over law t c.args.single M _ ks (omega arith) c.first_masks-masks.ensures l ∙ ap (λ v. with_masks F (mask F t c.args.single v) ks) is) c.walk-2.ensures
