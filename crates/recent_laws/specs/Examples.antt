-- Three histories, worked by hand.
-- Assumes nothing.
use Rattle.std.specs.Prelude.{ℕ, List, [], ◌∷◌, ◌++◌, ◌≡◌, ℤ, pos, negsuc, replicate}
use Rattle.recent_laws.specs.Minute.{average_of_all}

-- a current, and how many milliseconds it flowed
pub record Flow : Type 0 where
  pub current : ℤ
  pub ms : ℕ

-- the milliseconds of some, one after the other
unfoldable pub flowed : List Flow → List ℤ
flowed [] = []
flowed (f ∷ fs) = replicate f.ms f.current ++ flowed fs

-- one of them
abbrev pub flow : ℤ → ℕ → Flow
flow current ms = record { current = current; ms = ms }

-- seconds of −5 and 2 mA
abbrev pub out_then_in : List Flow
out_then_in = flow (negsuc 4) 1000 ∷ flow (pos 2) 1000 ∷ []

-- (−5,000 + 2,000) / 2,000 is −1.5, cut toward zero −1
abbrev pub TwoSeconds : Type 0
TwoSeconds = average_of_all (flowed out_then_in) (pos 2) ≡ negsuc 0

-- −5 mA for 999 ms, and 7 mA measured with no time between
abbrev pub a_moment : List Flow
a_moment = flow (negsuc 4) 999 ∷ flow (pos 7) 0 ∷ []

-- no second is complete, so the latest
abbrev pub NoSecond : Type 0
NoSecond = average_of_all (flowed a_moment) (pos 7) ≡ pos 7

-- 100 mA for 49 days, 9 mA in four samples of 250 ms, 40 mA for 59 s: 4,295,027,295 ms in all, so the last 295 are a begun second's
abbrev pub many_days : List Flow
many_days =
    flow (pos 100) 4294967295 ∷ flow (pos 9) 250 ∷ flow (pos 9) 250 ∷ flow (pos 9) 250 ∷ flow (pos 9) 250 ∷ flow (pos 40) 59000 ∷ []

-- the 60 seconds before those have 295 ms of 100, 1,000 of 9 and 58,705 of 40: (29,500 + 9,000 + 2,348,200) / 60,000 is 39.7…, cut 39
abbrev pub LastMinute : Type 0
LastMinute = average_of_all (flowed many_days) (pos 40) ≡ pos 39
