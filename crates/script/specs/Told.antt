-- The words that tell a call's outcome.
use Rattle.std.specs.Prelude.{ℕ, List, ◌++◌, Ok, Err, codes, decimal, Result}
use Rattle.fault.specs.declared.Fault.{Fault}
use Rattle.fault.specs.declared.Layer.{Layer}
use Rattle.fault.specs.declared.Layer.TheVariants.{Sealing, Card}
use Rattle.fault.specs.Faults.{fault_number, fault_layer, fault_sector, fault_key, fault_sentence, named}

abbrev pub layer_word : Layer → List ℕ
layer_word Sealing = codes "sealing"
layer_word Card = codes "card"

-- `refused`, the number, the layer, the sector and the key where they belong, and what is true then
abbrev pub refusal_told : Fault → List ℕ
refusal_told f =
    codes "refused " ++ (decimal (fault_number f) ++ (codes " " ++ (layer_word (fault_layer f)
    ++ (named (codes " sector ") (fault_sector f) ++ (named (codes " key ") (fault_key f) ++ (codes ": " ++ fault_sentence f))))))

abbrev pub told : Result (Unit {0}) Fault → List ℕ
told (Ok u) = codes "accepted"
told (Err f) = refusal_told f
