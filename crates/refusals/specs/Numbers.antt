-- The answer numbers of document 01, "Answers". Definitions: assumes nothing.
use Rattle.std.specs.Prelude.{ℕ, Result, Ok, Err}
use Rattle.refusals.specs.declared.Refusal.{Refusal}
use Rattle.refusals.specs.declared.Refusal.TheVariants.{NotSound, SmallRoom, OtherAddress, WrongForm, WrongPec, ReservedCommand, CommandNotBuilt, ReadOnly, BadSheet, BadSetUp, NoFit, NotAKey, NotACapture, WrongLength, TooManyRows, BadRow, BadTag, LongBody, LongSheet}

-- a refusal's number (RULES 1.1 to 1.20)
abbrev pub number_of : Refusal → ℕ
number_of NotSound = 1
number_of SmallRoom = 2
number_of OtherAddress = 3
number_of WrongForm = 4
number_of WrongPec = 5
number_of ReservedCommand = 6
number_of CommandNotBuilt = 7
number_of ReadOnly = 8
number_of BadSheet = 9
number_of BadSetUp = 11
number_of NoFit = 12
number_of NotAKey = 13
number_of NotACapture = 14
number_of WrongLength = 15
number_of TooManyRows = 16
number_of BadRow = 17
number_of BadTag = 18
number_of LongBody = 19
number_of LongSheet = 20

-- an outcome's answer number: 0 where it is served (RULES 1.0)
abbrev pub answer_of : {A : Type 0} → Result A Refusal → ℕ
answer_of (Ok value) = 0
answer_of (Err reason) = number_of reason
