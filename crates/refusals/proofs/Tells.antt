-- The way back from a number to its reason, so that a number tells it.
-- Assumes nothing.
use Rattle.std.specs.Prelude.{◌≡◌, ℕ, List, [], ◌∷◌, get_or, Option, Some, None, Result, Ok, Err}
use mathlib.Core.Path.{refl, sym, ap, ◌∙◌}
use Rattle.refusals.specs.declared.Refusal.{Refusal}
use Rattle.refusals.specs.declared.Refusal.TheVariants.{NotSound, SmallRoom, OtherAddress, WrongForm, WrongPec, ReservedCommand, CommandNotBuilt, ReadOnly, BadSheet, BadSetUp, NoFit, NotAKey, NotACapture, WrongLength, TooManyRows, BadRow, BadTag, LongBody, LongSheet}
use Rattle.refusals.specs.Numbers.{number_of, answer_of}
use Rattle.refusals.specs.Tells.{NumbersTell, NeverServed, ReasonTold, ServedTold}

-- what each number from 0 on refuses for
reasons : List (Option Refusal)
reasons =
    None
    ∷ Some NotSound
    ∷ Some SmallRoom
    ∷ Some OtherAddress
    ∷ Some WrongForm
    ∷ Some WrongPec
    ∷ Some ReservedCommand
    ∷ Some CommandNotBuilt
    ∷ Some ReadOnly
    ∷ Some BadSheet
    ∷ None
    ∷ Some BadSetUp
    ∷ Some NoFit
    ∷ Some NotAKey
    ∷ Some NotACapture
    ∷ Some WrongLength
    ∷ Some TooManyRows
    ∷ Some BadRow
    ∷ Some BadTag
    ∷ Some LongBody
    ∷ Some LongSheet
    ∷ []

reason_of : ℕ → Option Refusal
reason_of n = get_or reasons n None

reason_back : (reason : Refusal) → reason_of (number_of reason) ≡ Some reason
unfolding reason_of reasons
reason_back NotSound = refl
reason_back SmallRoom = refl
reason_back OtherAddress = refl
reason_back WrongForm = refl
reason_back WrongPec = refl
reason_back ReservedCommand = refl
reason_back CommandNotBuilt = refl
reason_back ReadOnly = refl
reason_back BadSheet = refl
reason_back BadSetUp = refl
reason_back NoFit = refl
reason_back NotAKey = refl
reason_back NotACapture = refl
reason_back WrongLength = refl
reason_back TooManyRows = refl
reason_back BadRow = refl
reason_back BadTag = refl
reason_back LongBody = refl
reason_back LongSheet = refl

-- a number that refuses for nothing is no reason's
no_reason : (reason : Refusal) (n : ℕ) → reason_of n ≡ None → number_of reason ≡ n → ⊥
no_reason reason n none e =
    let z : ◌≡◌ {A = Option Refusal} (Some reason) None = sym (reason_back reason) ∙ ap reason_of e ∙ none in
    cc

pub numbers_tell : NumbersTell
numbers_tell p q e =
    let z : Some p ≡ Some q = sym (reason_back p) ∙ ap reason_of e ∙ reason_back q in
    cc

pub never_served : NeverServed
unfolding reason_of reasons
never_served reason = (no_reason reason 0 refl, no_reason reason 10 refl)

pub reason_told : {A : Type 0} → ReasonTold A
reason_told {A = A} (Ok value) reason = (
  λ e. absurd ((never_served reason).0 (sym e)),
  λ h. let z : ◌≡◌ {A = Result A Refusal} (Ok value) (Err reason) = h in absurd (cc),
)
reason_told {A = A} (Err p) reason = (
  λ e. ap Err (numbers_tell p reason e),
  λ h. ap answer_of h,
)

pub served_told : {A : Type 0} → ServedTold A
served_told (Ok value) = (λ e. refl, λ h. refl)
served_told (Err reason) = (λ e. absurd ((never_served reason).0 e), λ h. absurd (cc))
