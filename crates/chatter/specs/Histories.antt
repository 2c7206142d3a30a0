-- Histories of anything that takes events one after another: a pack, a charger, both on one bus.
-- Assumes nothing.
use Rattle.std.specs.Prelude.{List, [], ◌∷◌}

-- the state after events, the oldest first, by the state that each leaves
abbrev pub run_of : {S E : Type 0} → (S → E → S) → S → List E → S
run_of step s [] = s
run_of step s (e ∷ es) = run_of step (step s e) es

-- what comes of events: of none the end; an event adds, in its state, to what comes of those after it
abbrev pub over : {S E A : Type 0} → (S → E → S) → (S → E → A → A) → A → S → List E → A
over step adds end s [] = end
over step adds end s (e ∷ es) = adds s e (over step adds end (step s e) es)
