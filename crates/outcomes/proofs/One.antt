-- One law for every entry: two outcomes that are what must come out are equal.
-- Assumes nothing.
use mathlib.Core.List.{List, [], ◌∷◌, ◌++◌}
use mathlib.Core.Path.{◌≡◌, refl, sym, ◌∙◌}
use denote.Triple.Clauses.{Ended}
use Rattle.outcomes.specs.Outcome.{Values, equations, Hold, Terms, OneOutcome, Contract, Tied, Settled}

one : (As : List (Type 0)) (x y z : Values As) (Ps Qs : List (Type 0)) → Hold (equations As x z ++ Ps) → Hold (equations As y z ++ Qs) → x ≡ y
one [] x y z Ps Qs p q = refl
one (A ∷ As) x y z Ps Qs p q = λ i. ((p.0 ∙ sym q.0) i, one As x.1 y.1 z.1 Ps Qs p.1 q.1 i)

pub one_outcome : {E : Ended} (e : Terms E) → OneOutcome e
one_outcome e κs args result other left other_left p q =
    one e.Outcome (e.comes κs result left) (e.comes κs other other_left) (e.must κs args) (e.adds κs args result left) (e.adds κs args other other_left) p q

pub settled : {E : Ended} {contract : Contract E} (e : Terms E) → Tied contract e → Settled contract e
settled e tied = record { tied = tied; one = one_outcome e }
