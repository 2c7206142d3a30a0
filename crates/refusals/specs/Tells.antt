-- An answer number tells its outcome: what `proofs/Tells.antt` proves.
-- Assumes nothing.
use Rattle.std.specs.Prelude.{◌≡◌, ◌≢◌, ◌↔◌, Result, Err, IsOk}
use Rattle.refusals.specs.declared.Refusal.{Refusal}
use Rattle.refusals.specs.Numbers.{number_of, answer_of}

-- two reasons never have one number
abbrev pub NumbersTell : Type 0
NumbersTell = (p q : Refusal) → number_of p ≡ number_of q → p ≡ q

-- no reason has 0 or 10, the two numbers that aren't refusals
abbrev pub NeverServed : Type 0
NeverServed = (reason : Refusal) → (number_of reason ≢ 0) × (number_of reason ≢ 10)

-- so an outcome answers a reason's number exactly if it is refused for it
abbrev pub ReasonTold : Type 0 → Type 0
ReasonTold A = (outcome : Result A Refusal) (reason : Refusal) → (answer_of outcome ≡ number_of reason) ↔ (outcome ≡ Err reason)

-- and 0 exactly if it is served
abbrev pub ServedTold : Type 0 → Type 0
ServedTold A = (outcome : Result A Refusal) → (answer_of outcome ≡ 0) ↔ IsOk outcome
