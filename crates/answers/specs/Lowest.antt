-- Document 01, Answer numbers: the lowest number above 0 whose condition holds is given, 0 when none does.
-- Assumes nothing.
use Rattle.std.specs.Prelude.{ℕ, min, ◌<◌, ◌≤◌, Bool, true, cond, ◌&&◌, List, [], ◌∷◌, ◌⊎◌, ◌≡◌, eqb, ltb}

-- a number, and whether its condition holds
pub record Condition : Type 0 where
  pub number : ℕ
  pub holds : Bool

-- as a row of a table
infixl 20 ◌when◌
abbrev pub ◌when◌ : ℕ → Bool → Condition
n when b = record { number = n; holds = b }

-- the lower of a number and what the others give, of which 0 is none
abbrev pub lower : ℕ → ℕ → ℕ
lower n others = cond (eqb others 0) n (min n others)

-- the lowest number whose condition holds, 0 when none does (RULES 2.1)
unfoldable pub lowest : List Condition → ℕ
lowest [] = 0
lowest (c ∷ cs) = cond c.holds (lower c.number (lowest cs)) (lowest cs)

-- the condition of a number holds
abbrev pub Given : ℕ → List Condition → Type 0
Given n [] = ⊥
Given n (c ∷ cs) = ((c.number ≡ n) × (c.holds ≡ true)) ⊎ Given n cs

-- an answer above 0 has its condition hold; where the condition of a number holds, the answer is above 0 and at most that number
pub record IsLowest (cs : List Condition) (answer : ℕ) : Type 0 where
  pub given : 0 < answer → Given answer cs
  pub least : (n : ℕ) → Given n cs → (0 < answer) × (answer ≤ n)

-- every number is above another
unfoldable pub all_above : ℕ → List Condition → Bool
all_above n [] = true
all_above n (c ∷ cs) = ltb n c.number && all_above n cs

-- so `lowest` is what the sentence says, of every list of numbers above 0
abbrev pub LowestOfAll : Type 0
LowestOfAll = (cs : List Condition) → all_above 0 cs ≡ true → IsLowest cs (lowest cs)

-- each number is below those after it
unfoldable pub rising : List Condition → Bool
rising [] = true
rising (c ∷ cs) = all_above c.number cs && rising cs

-- the first number whose condition holds
unfoldable pub first_holding : List Condition → ℕ
first_holding [] = 0
first_holding (c ∷ cs) = cond c.holds c.number (first_holding cs)

-- in a rising list that is the lowest
abbrev pub FirstIsLowest : Type 0
FirstIsLowest = (cs : List Condition) → rising cs ≡ true → lowest cs ≡ first_holding cs
