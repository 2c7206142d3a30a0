-- Request R-11: idle events struck out of a history, any choice of them.
-- Assumes nothing.
use Rattle.std.specs.Prelude.{Bool, true, cond, ◌&&◌, List, [], ◌∷◌, ◌++◌, ◌≡◌}
use Rattle.chatter.specs.Histories.{run_of}

-- what takes events: the state that each leaves, which are idle, when two states are the same to whoever asks, and when an event gives the same in two states
pub record Party (S E : Type 0) : Type 1 where
  pub step : S → E → S
  pub idle : S → E → Bool
  pub Same : S → S → Type 0
  pub Gives : S → S → E → Type 0

-- the second history is the first with some idle events struck out, each idle where it stands in the first (RULES 16.1)
pub data Struck {S E : Type 0} (p : Party S E) : S → List E → List E → Type 0 where
  none : {s : S} → Struck p s [] []
  stays : {s : S} {e : E} {es fs : List E} → Struck p (p.step s e) es fs → Struck p s (e ∷ es) (e ∷ fs)
  strikes : {s : S} {e : E} {es fs : List E} → p.idle s e ≡ true → Struck p (p.step s e) es fs → Struck p s (e ∷ es) fs

-- what a choice leaves: of the events that it names, the idle ones are struck out
abbrev pub strike : {S E : Type 0} → Party S E → List Bool → S → List E → List E
strike p [] s es = es
strike p (b ∷ bs) s [] = []
strike p (b ∷ bs) s (e ∷ es) = cond (b && p.idle s e) [] (e ∷ []) ++ strike p bs (p.step s e) es

-- every event that stays gives the same in the full history and, from the state t on, in the struck one, and is idle in the one exactly where it is in the other (RULES 16.4)
abbrev pub Each : {S E : Type 0} (p : Party S E) {s : S} {es fs : List E} → Struck p s es fs → S → Type 0
Each p none t = Unit {0}
Each p (stays {s = s} {e = e} r) t = p.Gives s t e × (p.idle s e ≡ p.idle t e) × Each p r (p.step t e)
Each p (strikes i r) t = Each p r t

-- the full history from s and the struck one from t: the ends are the same, and so is every event that stays
pub record Unmoved {S E : Type 0} (p : Party S E) (s t : S) (es fs : List E) (r : Struck p s es fs) : Type 0 where
  pub state : p.Same (run_of p.step s es) (run_of p.step t fs)
  pub each : Each p r t
