-- One more call made; and at the end the promise, from the calls as they act on the bytes.
use Rattle.std.proofs.Common.{◌≡◌, ℕ, ◌<◌, ◌≤◌, List, [], ◌++◌, length, take, drop, sym, refl, ap, ◌∙◌, subst, arith}
use Rattle.std.proofs.lemmas.List.{drop_all, take_all, append-nil}
use Rattle.sealing.specs.Mode.{maps}
use Rattle.sealing.proofs.Trips.{one_dead_tweak, there_and_back}
use Rattle.sector.specs.Rings.{ciphers_of}
use Rattle.sheet.specs.Sectors.{sectors}
use Rattle.sheet.specs.Promise.{Answer, KeepsSheet}
use Rattle.sheet.specs.Images.{answers_on, final_image, AllGiven}
use Rattle.sheet.proofs.Lawful.{lawful_sectors}
use Rattle.sheet.proofs.Steps.{equal_cards}
use Rattle.sheet.proofs.Opens.{keeps, opened}
use Rattle.calls.specs.declared.step.Step.{Step}
use Rattle.calls.specs.Runs.{calls_of, answers_of}
use Rattle.calls.proofs.Running.{image_again, answers_again, given_again, asked_set}
use Rattle.calls.proofs.run.Goals as goal

pub loop-step-preserved : goal.loop-step-preserved
loop-step-preserved g c =
    let S = sectors g.C.Block.Block.ops g.C.Cipher.enc g.C.Cipher.dec in
    let ring = ciphers_of c.args.ring.now in
    let xs = c.loop-step.steps in
    let i = c.loop-step.step-index in
    let d = c.step-item.result in
    let y = c.make_step.new.step in
    let l : i < length xs = omega (arith, c.loop-step-test.true, c.loop-step.auto.steps) in
    let v = c.loop-step.invariant in (
      image_again S ring xs i d y c.loop-step.image c.make_step.new.image l c.make_step.ensures ∙ v.0,
      answers_again S ring xs i d y c.loop-step.image c.make_step.new.image l c.make_step.ensures ∙ v.1,
      λ h. v.2 (given_again S ring xs i d y c.loop-step.image c.make_step.new.image l c.make_step.ensures h),
      asked_set xs i d y l c.make_step.ensures.unchanged ∙ v.3,
    )

pub returns : goal.returns
returns g c =
    let enc = g.C.Cipher.enc in
    let dec = g.C.Cipher.dec in
    let back = g.met.C.Cipher.back in
    let forth = g.met.C.Cipher.forth in
    let S = sectors g.C.Block.Block.ops enc dec in
    let law = lawful_sectors g.met.C.Block.Block.laws enc dec back forth in
    let ring = ciphers_of c.args.ring.now in
    let image = c.args.image.now in
    let todo = calls_of c.args.steps.now in
    let xs = c.loop-step.steps in
    let i = c.loop-step.step-index in
    let l : length xs ≤ i = omega (arith, c.loop-step-test.false, c.loop-step.auto.steps) in
    let n : drop i xs ≡ [] = drop_all i xs l in
    let t : take i xs ≡ xs = take_all i xs l in
    let v = c.loop-step.invariant in
    let a : c.loop-step.image ≡ final_image S ring image todo = sym (ap (λ (r : List Step). final_image S ring c.loop-step.image (calls_of r)) n) ∙ v.0 in
    let b : answers_of xs ≡ answers_on S ring image todo =
    sym (append-nil (answers_of xs))
    ∙ sym (ap (λ (r : List Step). answers_of r ++ []) t)
    ∙ sym (ap (λ (r : List Step). answers_of (take i xs) ++ answers_on S ring c.loop-step.image (calls_of r)) n)
    ∙ v.1 in
    let h : AllGiven todo = v.2 (subst (λ (r : List Step). AllGiven (calls_of r)) (sym n) tt) in
    record {
      image = a;
      answers = b;
      unchanged = v.3;
      promise = λ ok. subst (λ (m : List ℕ). KeepsSheet S ring image todo m (answers_of xs)) (sym a) (subst (λ (r : List Answer). KeepsSheet S ring image todo (final_image S ring image todo) r) (sym b) (keeps S law ring ok image todo c.are_bytes.ensures h));
      equal_cards = equal_cards S law ring;
      opens = λ ok x bytes. opened S law ring ok x _ bytes refl;
      one_dead_tweak = λ k. one_dead_tweak g.met.C.Block.Block.laws (maps enc dec k) (record { DE = back k; ED = forth k });
      there_and_back = λ k. there_and_back g.met.C.Block.Block.laws (maps enc dec k) (record { DE = back k; ED = forth k });
    }
