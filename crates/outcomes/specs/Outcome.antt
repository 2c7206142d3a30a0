-- What a public function's contract allows, for any function: equations between what comes out and what must.
-- Assumes nothing.
use Rattle.std.specs.Prelude.{List, [], ◌∷◌, ◌++◌, ◌≡◌}
use seplogic.Ra.Ura.{Ura}
use base.Logic.{SProp}
use contract.Lifetimes.{Lfts}
use contract.Monad.{Fun}
use contract.Notation.{connectives}
use denote.Triple.Clauses.{Ended, AtExit, Clauses}
use denote.Triple.Entry.{Args, Res}
use types.Logic.{Logic}
use prog.Memory.{Memory}
use prog.Routine.{Routine}

-- a value of each type
abbrev pub Values : List (Type 0) → Type 0
Values [] = Unit {0}
Values (A ∷ As) = A × Values As

-- each value is the one beside it
abbrev pub equations : (As : List (Type 0)) → Values As → Values As → List (Type 0)
equations [] x y = []
equations (A ∷ As) x y = (x.0 ≡ y.0) ∷ equations As x.1 y.1

-- all of them hold
abbrev pub Hold : List (Type 0) → Type 0
Hold [] = Unit {0}
Hold (P ∷ Ps) = P × Hold Ps

-- the terms of a contract, as a caller sees them: what comes out (its result, and what lent memory holds then); what must, by what goes in; and what its contract adds, nothing in most
pub record Terms (E : Ended) : Type 1 where
  pub Outcome : List (Type 0)
  pub comes : (κs : Lfts E.signature.lifetimes) → Res E.signature κs → AtExit E κs → Values Outcome
  pub must : (κs : Lfts E.signature.lifetimes) → Args E.signature κs → Values Outcome
  pub adds : (κs : Lfts E.signature.lifetimes) → Args E.signature κs → Res E.signature κs → AtExit E κs → List (Type 0)

-- those of a contract that adds nothing
abbrev pub terms_of : {E : Ended} (Outcome : List (Type 0))
    → ((κs : Lfts E.signature.lifetimes) → Res E.signature κs → AtExit E κs → Values Outcome)
    → ((κs : Lfts E.signature.lifetimes) → Args E.signature κs → Values Outcome) → Terms E
terms_of Outcome comes must = record { Outcome = Outcome; comes = comes; must = must; adds = λ κs args result left. [] }

module _ {E : Ended} (e : Terms E) (κs : Lfts E.signature.lifetimes) (args : Args E.signature κs) where
  -- what is said of a call
  abbrev pub said : Res E.signature κs → AtExit E κs → List (Type 0)
  said result left = equations e.Outcome (e.comes κs result left) (e.must κs args) ++ e.adds κs args result left

  -- what may come out of it
  abbrev pub Allowed : Res E.signature κs → AtExit E κs → Type 0
  Allowed result left = Hold (said result left)

-- two allowed outcomes of a call are equal
abbrev pub OneOutcome : {E : Ended} → Terms E → Type 0
OneOutcome {E} e =
    (κs : Lfts E.signature.lifetimes) (args : Args E.signature κs)
    (result other : Res E.signature κs) (left other_left : AtExit E κs)
    → Allowed e κs args result left → Allowed e κs args other other_left → e.comes κs result left ≡ e.comes κs other other_left

module _ {M : Type 1} (𝓤 : Ura M) where
  open connectives 𝓤 use {⌜◌⌝, ◌∗◌, ⊤ₛ}

  -- as clauses assert them, one beside the other
  abbrev pub asserted : List (Type 0) → SProp 𝓤
  asserted [] = ⊤ₛ
  asserted (P ∷ []) = ⌜ P ⌝
  asserted (P ∷ (Q ∷ Ps)) = ⌜ P ⌝ ∗ asserted (Q ∷ Ps)

  -- a contract that asks nothing of its caller, and owes what is said
  abbrev pub owing : {E : Ended} → Terms E → Clauses 𝓤 E
  owing e κs args = record { ghost = Unit {0}; requires = λ _. ⊤ₛ; ensures = λ _ result left. asserted (said e κs args result left) }

-- the clauses of a function, as the checker has them
abbrev pub Contract : Ended → Type 2
Contract E = (M : Type 1) (𝓤 : Ura M) (𝓛 : Logic 𝓤) → (Memory → SProp 𝓤) → (Routine → Fun 𝓤) → Clauses 𝓤 E

-- the contract is this, in any model
abbrev pub Tied : {E : Ended} → Contract E → Terms E → Type 2
Tied contract e = (M : Type 1) (𝓤 : Ura M) (𝓛 : Logic 𝓤) (memory : Memory → SProp 𝓤) (run : Routine → Fun 𝓤) → contract M 𝓤 𝓛 memory run ≡ owing 𝓤 e

-- a function whose contract is the one told here, and allows one outcome
pub record Settled {E : Ended} (contract : Contract E) (e : Terms E) : Type 2 where
  pub tied : Tied contract e
  pub one : OneOutcome e
