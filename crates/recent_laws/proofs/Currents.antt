-- Every current of a part of a list of currents, and of a joined one, is a signed 16-bit number.
-- Assumes nothing.
use Prim.Native.Nat.{ℕ, zero, suc}
use mathlib.Core.List.{List, [], ◌∷◌, ◌++◌}
use lib.IntN.{ℤ}
use lib.ListN.{take, drop, replicate}
use mir.Syntax.{w16}
use mir.Val.{SFits}
use Rattle.recent_laws.specs.Promises.{Currents}

pub currents_take : (n : ℕ) (l : List ℤ) → Currents l → Currents (take n l)
currents_take zero l h = tt
currents_take (suc n) [] h = tt
currents_take (suc n) (c ∷ l) (f, h) = (f, currents_take n l h)

pub currents_drop : (n : ℕ) (l : List ℤ) → Currents l → Currents (drop n l)
currents_drop zero l h = h
currents_drop (suc n) [] h = tt
currents_drop (suc n) (c ∷ l) (f, h) = currents_drop n l h

pub currents_rep : (n : ℕ) (c : ℤ) → SFits w16 c → Currents (replicate n c)
currents_rep zero c f = tt
currents_rep (suc n) c f = (f, currents_rep n c f)

pub currents_append : (a b : List ℤ) → Currents a → Currents b → Currents (a ++ b)
currents_append [] b h k = k
currents_append (c ∷ a) b (f, h) k = (f, currents_append a b h k)
