-- Checks in turn: a call's refusals as a list in the call's own order.
use Rattle.std.specs.Prelude.{Bool, cond, List, [], ◌∷◌, Ok, Err, Result}
use Rattle.fault.specs.declared.Fault.{Fault}

-- a check: whether its sentence is true, and the refusal then
pub record Check : Type 0 where
  pub fails : Bool
  pub fault : Fault

abbrev pub ◌⇒◌ : Bool → Fault → Check
b ⇒ f = record { fails = b; fault = f }

infixr 30 ◌⇒◌
-- the first check whose sentence is true refuses; where none is, the answer is x
abbrev pub ruled : {A : Type 0} → List Check → A → Result A Fault
ruled [] x = Ok x
ruled (c ∷ cs) x = cond c.fails (Err c.fault) (ruled cs x)

-- the same where the answer is only that nothing refuses
abbrev pub verdict : List Check → Result (Unit {0}) Fault
verdict cs = ruled cs tt
