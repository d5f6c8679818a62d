-- The stages of a sealing in three passes: what a beginning gives, what a pass answers, and what it leaves in the buffer.
use Rattle.std.specs.Prelude.{ℕ, ◌*◌, ◌/◌, cond, List, length, Ok, Err, Result, ◌==◌}
use Rattle.kind.specs.Laws.{Ops}
use Rattle.fault.specs.declared.SealFault.{SealFault}
use Rattle.fault.specs.declared.SealFault.TheVariants.{OtherLength}
use Rattle.passes.specs.declared.terms.Terms.{Terms}
use Rattle.passes.specs.Rows.{on_blocks}
use Rattle.sealing.specs.Mode.{Maps, begun, checked}
use Rattle.stages.specs.declared.Stage.{Stage}
use Rattle.stages.specs.declared.Refused.{Refused}

-- each stage holds the same terms as the one before
abbrev pub next_stage : {K : Type 0} {done next : ℕ} → Stage K done → Stage K next
next_stage stage = record { terms = stage.terms }

module _ {K : Type 0} (F : Ops K) where
  -- the stage that a sealing of len bytes under the tweak T begins with, refused as a direct sealing is
  abbrev pub beginning : Maps K → List ℕ → ℕ → Result (Stage K 0) SealFault
  beginning c T len = checked F (length T) len (F.inverse (c.E (F.block T))) (λ L. record { terms = begun F c (F.block T) (len / F.size) })

  -- what a pass answers on a buffer of len bytes: the next stage where it is as long as was begun, and else the stage itself, with refusal 14
  abbrev pub next_or_back : {S N : Type 0} → Terms K → ℕ → N → S → Result N (Refused S)
  next_or_back s len next stage = cond (len == s.m * F.size) (Ok next) (Err (record { stage = stage; fault = OtherLength }))

  -- what it leaves there: its blocks changed by the pass where it is as long as was begun, and else every byte as it was
  abbrev pub after_pass : Terms K → (List K → List K) → List ℕ → List ℕ
  after_pass s pass old = cond (length old == s.m * F.size) (on_blocks F s.m pass old) old
