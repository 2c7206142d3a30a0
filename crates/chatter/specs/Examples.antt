-- Strikings worked by hand, on a counter: an event adds its number, and is idle where that is 0.
-- Assumes nothing.
use Rattle.std.specs.Prelude.{ℕ, ◌+◌, Bool, true, false, List, [], ◌∷◌, map, ◌≡◌, eqb}
use Rattle.chatter.specs.Struck.{Party, strike}

abbrev pub counter : Party ℕ ℕ
counter = record { step = λ s e. s + e; idle = λ s e. eqb e 0; Same = λ s t. s ≡ t; Gives = λ s t e. s + e ≡ t + e }

-- a choice, the events, and what is left of them
pub record Example : Type 0 where
  pub choice : List Bool
  pub events : List ℕ
  pub expected : List ℕ

unfoldable pub examples : List Example
examples =
    -- no choice, and no events
    record { choice = []; events = 0 ∷ 7 ∷ []; expected = 0 ∷ 7 ∷ [] }
    ∷ record { choice = true ∷ true ∷ []; events = []; expected = [] }
    -- idle and named: struck; idle and not named: stays; named and not idle: stays
    ∷ record { choice = true ∷ false ∷ true ∷ []; events = 0 ∷ 0 ∷ 7 ∷ []; expected = 0 ∷ 7 ∷ [] }
    -- all idle ones; a choice that ends before the events do; one that goes on behind them
    ∷ record { choice = true ∷ true ∷ true ∷ true ∷ []; events = 0 ∷ 7 ∷ 0 ∷ 5 ∷ []; expected = 7 ∷ 5 ∷ [] }
    ∷ record { choice = true ∷ []; events = 0 ∷ 7 ∷ 0 ∷ []; expected = 7 ∷ 0 ∷ [] }
    ∷ record { choice = true ∷ true ∷ true ∷ []; events = 0 ∷ []; expected = [] }
    ∷ []

-- both columns are equal
abbrev pub AsExpected : Type 0
AsExpected = map (λ (e : Example). strike counter e.choice 0 e.events) examples ≡ map (λ (e : Example). e.expected) examples
