-- What crosses to C: each outcome as numbers.
use Rattle.std.specs.Prelude.{ℕ, List, Some, None, Ok, Err, Option, Result}
use Rattle.kind.specs.Laws.{Ops}
use Rattle.sealing.specs.Mode.{Maps, sealing, unsealing, answer, left}
use Rattle.fault.specs.declared.NoInverse.{NoInverse}
use Rattle.fault.specs.declared.SealFault.{SealFault}
use Rattle.fault.specs.declared.Layer.{Layer}
use Rattle.fault.specs.declared.Layer.TheVariants.{Sealing, Card}
use Rattle.fault.specs.declared.Fault.{Fault}
use Rattle.fault.specs.Faults.{seal_number, seal_cause, fault_number, fault_layer, fault_sector, fault_key, fault_cause}
use Rattle.capi.specs.declared.outcome.Outcome.{Outcome}

-- the layer that refuses: 1 sealing, 2 card
abbrev pub layer_code : Layer → ℕ
layer_code Sealing = 1
layer_code Card = 2

-- what the field said: 1 that zero has no inverse, 0 nothing
abbrev pub cause_code : Option NoInverse → ℕ
cause_code None = 0
cause_code (Some cause) = 1

-- how many places are named: the sector alone, or the sector and the key
abbrev pub places : Option ℕ → Option ℕ → ℕ
places None key = 0
places (Some sector) None = 1
places (Some sector) (Some key) = 2

abbrev pub or_zero : Option ℕ → ℕ
or_zero None = 0
or_zero (Some n) = n

abbrev pub accepted : Outcome
accepted = record { number = 0; layer = 0; cause = 0; places = 0; sector = 0; key = 0 }

abbrev pub refused : Fault → Outcome
refused f = record {
  number = fault_number f;
  layer = layer_code (fault_layer f);
  cause = cause_code (fault_cause f);
  places = places (fault_sector f) (fault_key f);
  sector = or_zero (fault_sector f);
  key = or_zero (fault_key f);
}

-- the outcome of a call on a card
abbrev pub outcome : Result (Unit {0}) Fault → Outcome
outcome (Ok u) = accepted
outcome (Err f) = refused f

-- the outcome of a direct sealing, whose own layer has all its refusals
abbrev pub sealing_refused : SealFault → Outcome
sealing_refused f = record { number = seal_number f; layer = layer_code Sealing; cause = cause_code (seal_cause f); places = 0; sector = 0; key = 0 }

abbrev pub sealing_outcome : Result (Unit {0}) SealFault → Outcome
sealing_outcome (Ok u) = accepted
sealing_outcome (Err f) = sealing_refused f

module _ {K : Type 0} (F : Ops K) (c : Maps K) (tweak text : List ℕ) where
  -- what a direct sealing answers, and what it leaves of the buffer
  abbrev pub seal_outcome : Outcome
  seal_outcome = sealing_outcome (answer (sealing F c tweak text))

  abbrev pub seal_leaves : List ℕ
  seal_leaves = left (sealing F c tweak text) text

  -- what a direct unsealing answers, and what it leaves of the buffer
  abbrev pub unseal_outcome : Outcome
  unseal_outcome = sealing_outcome (answer (unsealing F c tweak text))

  abbrev pub unseal_leaves : List ℕ
  unseal_leaves = left (unsealing F c tweak text) text
