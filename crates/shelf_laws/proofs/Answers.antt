-- 16, 17 and figures, each exactly where it is said, and no other refusal.
-- Assumes nothing.
use mathlib.Core.Path.{◌≡◌, refl, sym, ap, ◌∙◌}
use mathlib.Core.Bool.{Bool, true, false, ◌||◌, or-true}
use mathlib.Core.List.{List, [], ◌∷◌}
use mathlib.Core.Logic.{◌⊎◌, inl, inr}
use Prim.Native.Nat.{ℕ, zero, suc, ◌≤◌, ◌<◌}
use native.Mathlib.Omega.{arith}
use lib.Dec.{eqb}
use lib.ListN.{length}
use borrow.Author.Tests.{ltb-true, lt-ltb, eqb-true, eq-eqb}
use Rattle.std.specs.Prelude.{◌↔◌, Result, Err, IsOk, is_ok}
use Rattle.refusals.specs.declared.Refusal.{Refusal}
use Rattle.refusals.specs.declared.Refusal.TheVariants.{TooManyRows, BadRow}
use Rattle.refusals.proofs.Tells.{reason_told, served_told}
use Rattle.shelf.specs.Shelf.{any_bad, total, lowest_from, report_of}
use Rattle.shelf.specs.declared.Row.{Row}
use Rattle.shelf_row.specs.Rows.{is_bad}
use Rattle.shelf_row.specs.declared.Figures.{Figures}
use Rattle.shelf.proofs.Steps.{report_large, report_bad, report_good}
use Rattle.shelf_laws.specs.Promises.{row, Bad, Sixteen, Seventeen, ServedExactly, NoFigures, SixteenAnswered, SeventeenAnswered, ZeroAnswered, EmptyTable}
use Rattle.shelf_laws.proofs.Cases.{Case, large, bad, good, case, not_refused, good_is}

-- ---- a bad row

bad_is_true : (r f d : ℕ) → is_bad r f d ≡ true → (f ≡ 0) ⊎ ((d ≡ 0) ⊎ (f < r))
bad_is_true r f d h = one (eqb f 0) refl (eqb d 0) refl
  where
    one : (a : Bool) → eqb f 0 ≡ a → (b : Bool) → eqb d 0 ≡ b → (f ≡ 0) ⊎ ((d ≡ 0) ⊎ (f < r))
    one true p b q = inl (eqb-true f 0 p)
    one false p true q = inr (inl (eqb-true d 0 q))
    one false p false q = inr (inr (ltb-true f r (rw (p, q) at h)))

is-bad : (r f d : ℕ) → (f ≡ 0) ⊎ ((d ≡ 0) ⊎ (f < r)) → is_bad r f d ≡ true
is-bad r f d (inl h) = rw (eq-eqb f 0 h)
is-bad r f d (inr (inl h)) = rw (eq-eqb d 0 h, or-true)
is-bad r f d (inr (inr h)) = rw (lt-ltb f r h, or-true)

some_bad : (rows : List Row) → any_bad rows ≡ true → (k : ℕ) × (k < length rows) × Bad (row rows k)
unfolding any_bad
some_bad [] h = absurd (let z : ◌≡◌ {A = ℕ} 0 1 = cc in omega arith)
some_bad (r ∷ rows) h = by (is_bad r.remaining r.full r.design) refl (some_bad rows)
  where
    by : (b : Bool) → is_bad r.remaining r.full r.design ≡ b → (any_bad rows ≡ true → (k : ℕ) × (k < length rows) × Bad (row rows k)) → (k : ℕ) × (k < length (r ∷ rows)) × Bad (row (r ∷ rows) k)
    by true e more = (0, omega arith, bad_is_true r.remaining r.full r.design e)
    by false e more = let w = more (sym (ap (λ (b : Bool). b || any_bad rows) e) ∙ h) in (suc w.0, omega arith, w.2)

bad_there : (rows : List Row) (k : ℕ) → k < length rows → Bad (row rows k) → any_bad rows ≡ true
unfolding any_bad
bad_there [] k l b = absurd (omega arith)
bad_there (r ∷ rows) zero l b = rw (is-bad r.remaining r.full r.design b)
bad_there (r ∷ rows) (suc k) l b = rw (bad_there rows k (omega arith) b) (or-true (is_bad r.remaining r.full r.design))

-- ---- exactly

pub sixteen : Sixteen
sixteen rows = ((λ h. to (case rows) h), (λ l. report_large rows l))
  where
    to : Case rows → report_of rows ≡ Err TooManyRows → 64 < length rows
    to (large many e) h = many
    to (bad few b e) h = let z : ◌≡◌ {A = Result Figures Refusal} (Err BadRow) (Err TooManyRows) = sym e ∙ h in absurd (cc)
    to (good g) h = absurd (not_refused (sym h ∙ g.is))

pub seventeen : Seventeen
seventeen rows = ((λ h. to (case rows) h), (λ w. report_bad rows w.0 (bad_there rows w.1.0 w.1.1 w.1.2)))
  where
    to : Case rows → report_of rows ≡ Err BadRow → (length rows ≤ 64) × ((k : ℕ) × (k < length rows) × Bad (row rows k))
    to (large many e) h = let z : ◌≡◌ {A = Result Figures Refusal} (Err TooManyRows) (Err BadRow) = sym e ∙ h in absurd (cc)
    to (bad few b e) h = (few, some_bad rows b)
    to (good g) h = absurd (not_refused (sym h ∙ g.is))

pub served_exactly : ServedExactly
served_exactly rows = ((λ h. to (case rows) h), (λ w. from w.0 w.1 (any_bad rows) refl))
  where
    to : Case rows → IsOk (report_of rows) → (length rows ≤ 64) × ((k : ℕ) → k < length rows → Bad (row rows k) → ⊥)
    to (large many e) h = let z : false ≡ true = rw e at h in absurd (cc)
    to (bad few b e) h = let z : false ≡ true = rw e at h in absurd (cc)
    to (good g) h = (g.few, λ k l b. let z : true ≡ false = sym (bad_there rows k l b) ∙ g.fine in cc)

    from : length rows ≤ 64 → ((k : ℕ) → k < length rows → Bad (row rows k) → ⊥) → (b : Bool) → any_bad rows ≡ b → IsOk (report_of rows)
    from few none true e = let w = some_bad rows e in absurd (none w.0 w.1 w.2)
    from few none false e = ap is_ok (good_is rows few e).is

pub no_figures : NoFigures
no_figures rows h = by (case rows)
  where
    by : Case rows → (report_of rows ≡ Err TooManyRows) ⊎ (report_of rows ≡ Err BadRow)
    by (large many e) = inl e
    by (bad few b e) = inr e
    by (good g) = let z : false ≡ true = rw g.is at h in absurd (cc)

-- ---- by number

-- what is so exactly where another thing is, which is so exactly where a third is
through : {A B C : Type 0} → A ↔ B → B ↔ C → A ↔ C
through t s = ((λ a. s.0 (t.0 a)), (λ c. t.1 (s.1 c)))

pub sixteen_answered : SixteenAnswered
sixteen_answered rows = through (reason_told (report_of rows) TooManyRows) (sixteen rows)

pub seventeen_answered : SeventeenAnswered
seventeen_answered rows = through (reason_told (report_of rows) BadRow) (seventeen rows)

pub zero_answered : ZeroAnswered
zero_answered rows = through (served_told (report_of rows)) (served_exactly rows)

pub empty_table : EmptyTable
unfolding any_bad total lowest_from
empty_table = report_good [] (omega arith) refl
