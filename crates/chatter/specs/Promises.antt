-- Request R-11, the theorems of `proofs/`: what is asked of one event holds over every history.
-- Assumes nothing.
use Rattle.std.specs.Prelude.{Bool, true, List, ◌≡◌}
use Rattle.chatter.specs.Histories.{over}
use Rattle.chatter.specs.Struck.{Party, Struck, strike, Unmoved}

-- one event: an idle one leaves the state the same; in two states that are the same any one gives the same, is idle in both or in neither, and leaves them the same
pub record StepLaw {S E : Type 0} (p : Party S E) : Type 0 where
  pub keeps : (s t : S) (e : E) → p.Same s t → p.idle s e ≡ true → p.Same (p.step s e) t
  pub gives : (s t : S) (e : E) → p.Same s t → p.Gives s t e
  pub idle : (s t : S) (e : E) → p.Same s t → p.idle s e ≡ p.idle t e
  pub leaves : (s t : S) (e : E) → p.Same s t → p.Same (p.step s e) (p.step t e)

-- an idle event adds nothing, and in two states that are the same any one adds the same
pub record AddsSame {S E A : Type 0} (p : Party S E) (adds : S → E → A → A) : Type 0 where
  pub nothing : (s : S) (e : E) (later : A) → p.idle s e ≡ true → adds s e later ≡ later
  pub same : (s t : S) (e : E) (later : A) → p.Same s t → adds s e later ≡ adds t e later

-- then striking any of the idle events out of any history changes nothing
abbrev pub ChatterIsIdle : {S E : Type 0} → Party S E → Type 0
ChatterIsIdle {S = S} {E = E} p = StepLaw p → (s t : S) (es fs : List E) (r : Struck p s es fs) → p.Same s t → Unmoved p s t es fs r

-- nor what comes of it
abbrev pub OverIsSame : {S E A : Type 0} → Party S E → (S → E → A → A) → A → Type 0
OverIsSame {S = S} {E = E} p adds end =
    StepLaw p → AddsSame p adds
    → (s t : S) (es fs : List E) → Struck p s es fs → p.Same s t → over p.step adds end s es ≡ over p.step adds end t fs

-- every choice is such a striking
abbrev pub AnyChoice : {S E : Type 0} → Party S E → Type 0
AnyChoice {S = S} {E = E} p = (bs : List Bool) (s : S) (es : List E) → Struck p s es (strike p bs s es)
