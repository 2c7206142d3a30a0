-- What a sample does to a run, by what the run sees of it.
-- Assumes nothing.
use Prim.Native.Nat.{ℕ}
use mathlib.Core.Bool.{Bool, true, false, not, ◌&&◌, ◌||◌, and-eq-true_iff, and-false}
use mathlib.Core.Path.{◌≡◌, refl, ap, sym, ◌∙◌}
use native.Mathlib.Omega.{arith}
use borrow.Author.Tests.{not-true}
use Rattle.learning.specs.Learning.{closes, counts_on, drawn_in, run_after}
use Rattle.learning.specs.declared.Seen.{Seen}
use Rattle.pack.specs.Facts.{RunFacts}
use Rattle.pack.specs.declared.Run.{Run}

module _ (u : Run) (v : Seen) where
  counts-is : counts_on u v ≡ true → (u.opened ≡ true) × (v.filled ≡ false) × (v.rises ≡ false) × (v.ends ≡ false)
  counts-is h =
      let h3 = (and-eq-true_iff _ _).0 h in
      let h2 = (and-eq-true_iff _ _).0 h3.0 in
      let h1 = (and-eq-true_iff _ _).0 h2.0 in
      (h1.0, not-true _ h1.1, not-true _ h2.1, not-true _ h3.1)

  pub closes-is : closes u v ≡ true → (u.opened ≡ true) × (v.filled ≡ false) × (v.ends ≡ true)
  closes-is h =
      let h2 = (and-eq-true_iff _ _).0 h in
      let h1 = (and-eq-true_iff _ _).0 h2.0 in
      (h1.0, not-true _ h1.1, h2.1)

  -- at full a run opens at 0
  pub opens : v.filled ≡ true → ((run_after u v).opened ≡ true) × ((run_after u v).drawn ≡ 0)
  opens f = (simp f, simp (f, and-false u.opened))

  -- a quiet sample counts on
  pub counts : u.opened ≡ true → v.filled ≡ false → v.rises ≡ false → v.ends ≡ false
      → ((run_after u v).opened ≡ true) × ((run_after u v).drawn ≡ drawn_in u v)
  counts o f a s = (simp (o, f, a, s), simp (o, f, a, s))

  -- and only so does a run stay open below full
  pub counted : (run_after u v).opened ≡ true → v.filled ≡ false
      → (u.opened ≡ true) × (v.rises ≡ false) × (v.ends ≡ false) × ((run_after u v).drawn ≡ drawn_in u v)
  counted h f =
      let on : counts_on u v ≡ true = sym (ap (λ (b : Bool). b || counts_on u v) f) ∙ h in
      let is = counts-is on in
      (is.0, is.2, is.3, simp on)

  -- with none open, none opens below full and none closes
  pub shut : u.opened ≡ false → v.filled ≡ false → ((run_after u v).opened ≡ false) × (closes u v ≡ false)
  shut o f = (simp (o, f), simp o)

  -- current above 0 below full ends the run
  pub ended : v.rises ≡ true → v.ends ≡ false → v.filled ≡ false → ((run_after u v).opened ≡ false) × (closes u v ≡ false)
  ended a s f = (simp (f, a, and-false (u.opened && true)), simp (s, and-false (u.opened && not v.filled)))

  -- TERMINATE_DISCHARGE below full closes an open run, and none is open then
  pub shuts : u.opened ≡ true → v.filled ≡ false → v.ends ≡ true
      → (closes u v ≡ true) × ((run_after u v).opened ≡ false) × ((run_after u v).drawn ≡ 0)
  shuts o f s = (simp (o, f, s), simp (o, f, s, and-false (not v.rises)), simp (o, f, s, and-false (not v.rises)))

  -- a quiet sample that draws nothing leaves a sound run as it is
  pub stays : v.filled ≡ false → v.rises ≡ false → v.ends ≡ false → v.drawn ≡ 0 → RunFacts u → run_after u v ≡ u
  stays f r s d k = go u.opened refl
    where
      both : {o o' : Bool} {n n' : ℕ} → o ≡ o' → n ≡ n' → ◌≡◌ {A = Run} (record { opened = o; drawn = n }) (record { opened = o'; drawn = n' })
      both e h = rw (e, h)

      go : (o : Bool) → u.opened ≡ o → run_after u v ≡ u
      go true o = both (simp (f, o, r, s)) (simp (f, o, r, s) (omega (arith, d, k.most)))
      go false o = both (simp (f, o)) (simp (f, o) (sym (k.none o)))
