-- A run is open exactly after quiet events since the pack was full; its close teaches full, and nothing else does.
-- Assumes nothing.
use Prim.Native.Nat.{ℕ, ◌+◌, ◌/◌, min, max}
use mathlib.Core.Bool.{Bool, true, false, not, or-true, true≢false}
use mathlib.Core.List.{List, [], ◌∷◌, ◌++◌}
use mathlib.Core.Logic.{◌⊎◌, inl, inr}
use mathlib.Core.Path.{◌≡◌, refl, ap, ◌∙◌, sym, subst⁻¹}
use native.Mathlib.Omega.{arith}
use borrow.Author.Tests.{eq-eqb, eqb-true, not-true, not-false}
use lib.Dec.{eqb}
use Rattle.alarms.specs.Alarms.{charge_full, terminate_discharge, charger_alarm}
use Rattle.capacity.specs.Capacity.{milliamp_ms}
use Rattle.clock.specs.Sample.{moved_of}
use Rattle.clock_laws.specs.Steps.{gap}
use Rattle.gauge_laws.proofs.Bits.{bits_stand}
use Rattle.gauge_laws.specs.Promises.{digit}
use Rattle.learning.proofs.Steps as law
use Rattle.learning.specs.Learning.{run_after}
use Rattle.pack.specs.Kept.{latest_of}
use Rattle.pack.specs.declared.Pack.{Pack}
use Rattle.pack.specs.declared.Run.{Run}
use Rattle.pack.specs.declared.Sample.{Sample}
use Rattle.pack.specs.declared.State.{State}
use Rattle.pack.specs.declared.Tank.{Tank}
use Rattle.runs.proofs.Cycles.{drawn_word, drawn_words, words_append, words_true, none_drawn}
use Rattle.runs.proofs.Measures.{set_up_pack}
use Rattle.runs.proofs.Tank.{tank_stays, seen_at, tank-sampled, full_is, rises-is, ends_is, run_append}
use Rattle.runs.specs.Closes.{drawn_over, closed_by, Quiet, NotFilled, SinceFull, Closing}
use Rattle.runs.specs.Events.{Event, sample, call, step, run, Throughout, accepted}
use Rattle.runs.specs.Learned.{RunOpen, RunDrawn, ClosesExactly, CloseLearns, OnlyCloseLearns, CloseIsShown, EndedUnused}
use Rattle.runs.specs.Since.{from_set_up}
use Rattle.start.specs.SetUp.{pack_of, set_up_of}
use Rattle.start.specs.declared.Setup.{Setup}
use Rattle.tank.proofs.Steps.{at-close, no-close, rises_on}
use Rattle.tank.specs.Tank.{seen_of, tank_after}

abbrev is_open : State → Bool
is_open s = s.pack.tank.run.opened

abbrev count : State → ℕ
count s = s.pack.tank.run.drawn

-- ---- one event

-- the run after an accepted sample
run_sampled : (s : State) (x : Sample) (n : ℕ) → accepted s (sample x n) ≡ true → (step s (sample x n)).pack.tank.run ≡ run_after s.pack.tank.run (seen_at s x)
unfolding tank_after
run_sampled s x n a = ap (λ (t : Tank). t.run) (tank-sampled s x n a)

-- what the run sees drawn is what the sample draws
sample_drawn : (s : State) (x : Sample) (n : ℕ) → accepted s (sample x n) ≡ true → drawn_word s (sample x n) ≡ (seen_at s x).drawn
unfolding seen_of
sample_drawn s x n a = simp a

-- any other event leaves it, and whether the pack is full
run_stays : (s : State) (e : Event) → accepted s e ≡ false → (step s e).pack.tank.run ≡ s.pack.tank.run
run_stays s e a = ap (λ (t : Tank). t.run) (tank_stays s e a)

full_stays : (s : State) (e : Event) → accepted s e ≡ false → charge_full (step s e).pack ≡ charge_full s.pack
full_stays s e a = ap (λ (t : Tank). eqb t.charge (milliamp_ms t.full)) (tank_stays s e a)

-- a quiet event counts on
quiet_event : (s : State) (e : Event) (d : ℕ) (b : Bool) → accepted s e ≡ b → is_open s ≡ true → count s ≡ min (milliamp_ms 65535) d → Quiet s e
    → (is_open (step s e) ≡ true) × (count (step s e) ≡ min (milliamp_ms 65535) (d + drawn_word s e))
quiet_event s (sample x n) d true a o c q =
    let v = seen_at s x in
    let (f, r, g) = q a in
    let k = law.counts s.pack.tank.run v o (sym (full_is s x n a) ∙ f) (not-true v.rises (sym (rises-is s x n a) ∙ r)) (sym (ends_is s x n a) ∙ g) in
    let e = run_sampled s x n a in
    (ap (λ (u : Run). u.opened) e ∙ k.0, ap (λ (u : Run). u.drawn) e ∙ k.1 ∙ omega (arith, c, sample_drawn s x n a))
quiet_event s (call c) d true a o k q = absurd (true≢false (sym a))
quiet_event s e d false a o c q =
    let k = run_stays s e a in
    (ap (λ (u : Run). u.opened) k ∙ o, ap (λ (u : Run). u.drawn) k ∙ omega (arith, c, none_drawn s e a))

-- at full a run is open at 0
abbrev OpenAtFull : State → Type 0
OpenAtFull s = charge_full s.pack ≡ true → (is_open s ≡ true) × (count s ≡ 0)

full_event : (s : State) (e : Event) (b : Bool) → accepted s e ≡ b → OpenAtFull s → OpenAtFull (step s e)
full_event s (sample x n) true a p f =
    let k = law.opens s.pack.tank.run (seen_at s x) (sym (full_is s x n a) ∙ f) in
    let e = run_sampled s x n a in
    (ap (λ (u : Run). u.opened) e ∙ k.0, ap (λ (u : Run). u.drawn) e ∙ k.1)
full_event s (call c) true a p f = absurd (true≢false (sym a))
full_event s e false a p f =
    let o = p (sym (full_stays s e a) ∙ f) in
    let k = run_stays s e a in
    (ap (λ (u : Run). u.opened) k ∙ o.0, ap (λ (u : Run). u.drawn) k ∙ o.1)

still_quiet : (s : State) (e : Event) → accepted s e ≡ false → Quiet s e
still_quiet s (sample x n) a = λ b. absurd (true≢false (sym b ∙ a))
still_quiet s (call c) a = tt

-- a run is open after an event if that leaves the pack full, or was quiet and found one open
open_event : (s : State) (e : Event) (b : Bool) → accepted s e ≡ b → is_open (step s e) ≡ true
    → (charge_full (step s e).pack ≡ true) ⊎ ((is_open s ≡ true) × Quiet s e)
open_event s (sample x n) true a o = go (seen_at s x).filled refl
  where
    go : (l : Bool) → (seen_at s x).filled ≡ l → (charge_full (step s (sample x n)).pack ≡ true) ⊎ ((is_open s ≡ true) × Quiet s (sample x n))
    go true f = inl (full_is s x n a ∙ f)
    go false f =
        let k = law.counted s.pack.tank.run (seen_at s x) (sym (ap (λ (u : Run). u.opened) (run_sampled s x n a)) ∙ o) f in
        inr (k.0, λ b. (full_is s x n a ∙ f, rises-is s x n a ∙ ap not k.1, ends_is s x n a ∙ k.2))
open_event s (call c) true a o = absurd (true≢false (sym a))
open_event s e false a o = inr (sym (ap (λ (u : Run). u.opened) (run_stays s e a)) ∙ o, still_quiet s e a)

-- with none open, none opens and full stays till the pack is full
shut_event : (s : State) (e : Event) (b : Bool) → accepted s e ≡ b → is_open s ≡ false → NotFilled s e
    → (is_open (step s e) ≡ false) × ((step s e).pack.tank.full ≡ s.pack.tank.full)
shut_event s (sample x n) true a o f =
    let p = s.pack in
    let k = law.shut p.tank.run (seen_at s x) o (sym (full_is s x n a) ∙ f a) in (
      ap (λ (u : Run). u.opened) (run_sampled s x n a) ∙ k.0,
      ap (λ (t : Tank). t.full) (tank-sampled s x n a) ∙ (no-close p.settings p.tank (latest_of x) (gap p x) k.1).0,
    )
shut_event s (call c) true a o f = absurd (true≢false (sym a))
shut_event s e false a o f =
    (ap (λ (u : Run). u.opened) (run_stays s e a) ∙ o, ap (λ (t : Tank). t.full) (tank_stays s e a))

-- ---- histories

quiet_run : (s : State) (es : List Event) (d : ℕ) → is_open s ≡ true → count s ≡ min (milliamp_ms 65535) d → Throughout Quiet s es
    → (is_open (run s es) ≡ true) × (count (run s es) ≡ min (milliamp_ms 65535) (d + drawn_words s es))
quiet_run s [] d o c q = (o, omega (arith, c))
quiet_run s (e ∷ es) d o c (q, qs) =
    let k = quiet_event s e d (accepted s e) refl o c q in
    let r = quiet_run (step s e) es (d + drawn_word s e) k.0 k.1 qs in
    (r.0, omega (arith, r.1))

full_run : (s : State) (es : List Event) → OpenAtFull s → OpenAtFull (run s es)
full_run s [] p = p
full_run s (e ∷ es) p = full_run (step s e) es (full_event s e (accepted s e) refl p)

open_run : (s : State) (es : List Event) → is_open (run s es) ≡ true → SinceFull s es ⊎ ((is_open s ≡ true) × Throughout Quiet s es)
open_run s [] o = inr (o, tt)
open_run s (e ∷ es) o = later (open_run (step s e) es o)
  where
    first : Throughout Quiet (step s e) es → (charge_full (step s e).pack ≡ true) ⊎ ((is_open s ≡ true) × Quiet s e) → SinceFull s (e ∷ es) ⊎ ((is_open s ≡ true) × Throughout Quiet s (e ∷ es))
    first q (inl f) = inl (record { before = e ∷ []; since = es; splits = refl; full = f; quiet = q })
    first q (inr (o, k)) = inr (o, (k, q))

    later : SinceFull (step s e) es ⊎ ((is_open (step s e) ≡ true) × Throughout Quiet (step s e) es) → SinceFull s (e ∷ es) ⊎ ((is_open s ≡ true) × Throughout Quiet s (e ∷ es))
    later (inl k) = inl (record { before = e ∷ k.before; since = k.since; splits = ap (λ (l : List Event). e ∷ l) k.splits; full = k.full; quiet = k.quiet })
    later (inr (o, q)) = first q (open_event s e (accepted s e) refl o)

shut_run : (s : State) (es : List Event) → is_open s ≡ false → Throughout NotFilled s es → (run s es).pack.tank.full ≡ s.pack.tank.full
shut_run s [] o f = refl
shut_run s (e ∷ es) o (f, fs) = let k = shut_event s e (accepted s e) refl o f in shut_run (step s e) es k.0 fs ∙ k.1

-- ---- since set-up

module _ (u : Setup) (first : Sample) (a : (set_up_of u first).answer ≡ 0) where
  abbrev start : State
  start = from_set_up u first

  start-full : OpenAtFull start
  unfolding pack_of
  start-full =
      subst⁻¹ (λ (p : Pack). charge_full p ≡ true → (p.tank.run.opened ≡ true) × (p.tank.run.drawn ≡ 0)) (set_up_pack u first a)
      (λ f. (eq-eqb u.remaining u.full (omega (arith, eqb-true (milliamp_ms u.remaining) (milliamp_ms u.full) f)), refl))

  start-open : is_open start ≡ true → charge_full start.pack ≡ true
  unfolding pack_of
  start-open =
      subst⁻¹ (λ (p : Pack). p.tank.run.opened ≡ true → charge_full p ≡ true) (set_up_pack u first a)
      (λ o. eq-eqb _ _ (ap milliamp_ms (eqb-true u.remaining u.full o)))

  opened : (es : List Event) → is_open (run start es) ≡ true → SinceFull start es
  opened es o = go (open_run start es o)
    where
      go : SinceFull start es ⊎ ((is_open start ≡ true) × Throughout Quiet start es) → SinceFull start es
      go (inl k) = k
      go (inr (o, q)) = record { before = []; since = es; splits = refl; full = start-open o; quiet = q }

  -- both halves of a history at full
  halves : (es : List Event) (k : SinceFull start es) → run start es ≡ run (run start k.before) k.since
  halves es k = ap (run start) k.splits ∙ run_append start k.before k.since

  counted : (es : List Event) (k : SinceFull start es)
      → (is_open (run start es) ≡ true) × (count (run start es) ≡ min (milliamp_ms 65535) (drawn_words (run start k.before) k.since))
  counted es k =
      let full = full_run start k.before start-full k.full in
      let q = quiet_run (run start k.before) k.since 0 full.0 (omega (arith, full.1)) k.quiet in
      (ap is_open (halves es k) ∙ q.0, ap count (halves es k) ∙ omega (arith, q.1))

pub run_open : RunOpen
run_open u first es a = (opened u first a es, λ k. (counted u first a es k).0)

pub run_drawn : RunDrawn
run_drawn u first es a k f =
    (counted u first a es k).1 ∙ ap (min (milliamp_ms 65535)) (sym (words_true (run (from_set_up u first) k.before) k.since f))

-- ---- the close

pub closes_exactly : ClosesExactly
closes_exactly u first es x n a accept =
    let s = run (from_set_up u first) es in (
      λ c.
          let k = law.closes-is s.pack.tank.run (seen_at s x) c in
          record { after = opened u first a es k.0; is_accepted = accept; not_full = full_is s x n accept ∙ k.1; ends = ends_is s x n accept ∙ k.2 },
      λ k. (law.shuts s.pack.tank.run (seen_at s x) (counted u first a es k.after).0 (sym (full_is s x n accept) ∙ k.not_full) (sym (ends_is s x n accept) ∙ k.ends)).0,
    )

-- what is learned from a count held at 65,535 mAh
learned_held : (run total drawn sum : ℕ) → run ≡ min (milliamp_ms 65535) total → sum ≡ total + drawn
    → max 1 (min 65535 (min (milliamp_ms 65535) (run + drawn) / 3600000)) ≡ max 1 (min 65535 (sum / 3600000))
learned_held run total drawn sum h e = omega arith

pub close_learns : CloseLearns
close_learns u first es x n a k f =
    let start = from_set_up u first in
    let s = run start es in
    let p = s.pack in
    let r = run start k.after.before in
    let since = k.after.since in
    let v = seen_at s x in
    let c = counted u first a es k.after in
    let shut = law.shuts p.tank.run v c.0 (sym (full_is s x n k.is_accepted) ∙ k.not_full) (sym (ends_is s x n k.is_accepted) ∙ k.ends) in
    let t = tank-sampled s x n k.is_accepted in
    let z = at-close p.settings p.tank (latest_of x) (gap p x) shut.0 in
    let e = run_sampled s x n k.is_accepted in
    let last : drawn_word (run r since) (sample x n) ≡ v.drawn =
    ap (λ (q : State). drawn_word q (sample x n)) (sym (halves u first a es k.after)) ∙ sample_drawn s x n k.is_accepted in
    let sum : drawn_over r (since ++ sample x n ∷ []) ≡ drawn_words r since + v.drawn =
    words_true r (since ++ sample x n ∷ []) f ∙ omega (arith, words_append r since (sample x n ∷ []), last) in
    record {
      full = ap (λ (u : Tank). u.full) t ∙ z.0 ∙ learned_held (count s) (drawn_words r since) v.drawn (drawn_over r (since ++ sample x n ∷ [])) c.1 sum;
      charge = ap (λ (u : Tank). u.charge) t ∙ z.1;
      FullyDischarged = ap (λ (u : Tank). u.FullyDischarged) t ∙ z.2;
      over = ap (λ (u : Run). u.opened) e ∙ shut.1;
      count = ap (λ (u : Run). u.drawn) e ∙ shut.2;
    }

pub only_close_learns : OnlyCloseLearns
only_close_learns u first es e a = go e (accepted (run (from_set_up u first) es) e) refl
  where
    s : State
    s = run (from_set_up u first) es

    Result : Event → Type 0
    Result e = ((x : Sample) × (n : ℕ) × (e ≡ sample x n) × Closing (from_set_up u first) es x n) ⊎ ((step s e).pack.tank.full ≡ s.pack.tank.full)

    by-close : (x : Sample) (n : ℕ) → accepted s (sample x n) ≡ true → (c : Bool) → closed_by s x ≡ c → Result (sample x n)
    by-close x n b true c = inl (x, n, refl, (closes_exactly u first es x n a b).0 c)
    by-close x n b false c =
        inr (ap (λ (t : Tank). t.full) (tank-sampled s x n b) ∙ (no-close s.pack.settings s.pack.tank (latest_of x) (gap s.pack x) c).0)

    go : (e : Event) (b : Bool) → accepted s e ≡ b → Result e
    go (sample x n) true b = by-close x n b (closed_by s x) refl
    go (call c) true b = absurd (true≢false (sym b))
    go e false b = inr (ap (λ (t : Tank). t.full) (tank_stays s e b))

pub close_is_shown : CloseIsShown
unfolding moved_of seen_of
close_is_shown s x c =
    let p = s.pack in
    let q = moved_of p x in
    let z = at-close p.settings p.tank (latest_of x) (gap p x) c in
    let ends : terminate_discharge q ≡ true = (law.closes-is p.tank.run (seen_at s x) c).2 in
    let b = bits_stand q 15 (omega arith) in
    (b.FULLY_DISCHARGED ∙ ap digit z.2, b.TERMINATE_DISCHARGE ∙ ap digit ends, simp (ends, or-true (charger_alarm q)))

pub ended_unused : EndedUnused
unfolding seen_of
ended_unused s x n es a r (f, fs) =
    let p = s.pack in
    let v = seen_at s x in
    let rises = not-false v.rises (sym (rises-is s x n a) ∙ r) in
    let k = law.ended p.tank.run v rises (rises_on (latest_of x).voltage (latest_of x).current p.settings.DischargeLimit rises) (sym (full_is s x n a) ∙ f a) in
    shut_run (step s (sample x n)) es (ap (λ (u : Run). u.opened) (run_sampled s x n a) ∙ k.0) fs
    ∙ ap (λ (t : Tank). t.full) (tank-sampled s x n a)
    ∙ (no-close p.settings p.tank (latest_of x) (gap p x) k.1).0
