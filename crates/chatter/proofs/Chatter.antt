-- From one event to every history; and every choice is a striking.
-- Assumes nothing.
use mathlib.Core.Bool.{Bool, true, false, cond, ◌&&◌, and-eq-true_iff}
use mathlib.Core.List.{List, [], ◌∷◌, ◌++◌}
use mathlib.Core.Path.{◌≡◌, refl, ap, ◌∙◌}
use Rattle.chatter.specs.Histories.{over}
use Rattle.chatter.specs.Promises.{ChatterIsIdle, OverIsSame, AnyChoice}
use Rattle.chatter.specs.Struck.{Party, Struck, none, stays, strikes, strike}

pub chatter_is_idle : {S E : Type 0} (p : Party S E) → ChatterIsIdle p
chatter_is_idle p law s t es fs none h = record { state = h; each = tt }
chatter_is_idle p law s t es fs (stays {e = e} {es = later} {fs = left} r) h =
    let rest = chatter_is_idle p law (p.step s e) (p.step t e) later left r (law.leaves s t e h) in
    record { state = rest.state; each = (law.gives s t e h, law.idle s t e h, rest.each) }
chatter_is_idle p law s t es fs (strikes {e = e} {es = later} i r) h =
    let rest = chatter_is_idle p law (p.step s e) t later fs r (law.keeps s t e h i) in
    record { state = rest.state; each = rest.each }

pub over_is_same : {S E A : Type 0} (p : Party S E) (adds : S → E → A → A) (end : A) → OverIsSame p adds end
over_is_same p adds end law same s t es fs none h = refl
over_is_same p adds end law same s t es fs (stays {e = e} {es = later} {fs = left} r) h =
    same.same s t e (over p.step adds end (p.step s e) later) h
    ∙ ap (adds t e) (over_is_same p adds end law same (p.step s e) (p.step t e) later left r (law.leaves s t e h))
over_is_same p adds end law same s t es fs (strikes {e = e} {es = later} i r) h =
    same.nothing s e (over p.step adds end (p.step s e) later) i
    ∙ over_is_same p adds end law same (p.step s e) t later fs r (law.keeps s t e h i)

-- ---- every choice

all_stay : {S E : Type 0} (p : Party S E) (s : S) (es : List E) → Struck p s es es
all_stay p s [] = none
all_stay p s (e ∷ es) = stays (all_stay p (p.step s e) es)

one_choice : {S E : Type 0} (p : Party S E) (s : S) (e : E) (es fs : List E) (v : Bool) → (v ≡ true → p.idle s e ≡ true)
    → Struck p (p.step s e) es fs → Struck p s (e ∷ es) (cond v [] (e ∷ []) ++ fs)
one_choice p s e es fs true i r = strikes (i refl) r
one_choice p s e es fs false i r = stays r

pub any_choice : {S E : Type 0} (p : Party S E) → AnyChoice p
any_choice p [] s es = all_stay p s es
any_choice p (b ∷ bs) s [] = none
any_choice p (b ∷ bs) s (e ∷ es) =
    one_choice p s e es (strike p bs (p.step s e) es) (b && p.idle s e) (λ h. ((and-eq-true_iff b (p.idle s e)).0 h).1) (any_choice p bs (p.step s e) es)
