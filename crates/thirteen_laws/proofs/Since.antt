-- Since set-up charge, bit 4, the minute and so 0D, 11 and 13 are document 01's.
-- Assumes nothing.
use Prim.Native.Nat.{ℕ}
use mathlib.Core.Bool.{Bool, true, false, cond, ◌&&◌, not, and-false}
use mathlib.Core.List.{List, [], ◌∷◌}
use mathlib.Core.Path.{◌≡◌, refl, sym, ap, ◌∙◌, subst}
use native.Mathlib.Omega.{arith}
use borrow.Author.Tests.{le-ltb, eq-eqb}
use lib.Dec.{eqb}
use lib.IntN.{ℤ, pos}
use mir.Facts.{to_z-of_z}
use mir.Syntax.{w16}
use mir.Val.{SFits, to_z, of_z}
use Rattle.capacity.specs.Capacity.{milliamp_ms, fully_discharged_of}
use Rattle.clock.specs.Sample.{elapsed_of}
use Rattle.clock_laws.proofs.Charge.{charge_true}
use Rattle.gauge.specs.Word as gauge
use Rattle.pack.specs.Discharge.{discharge_ends}
use Rattle.pack.specs.Kept.{latest_of}
use Rattle.pack.specs.declared.Latest.{Latest}
use Rattle.pack.specs.declared.Sample.{Sample}
use Rattle.pack.specs.declared.Settings.{Settings}
use Rattle.pack.specs.declared.Tank.{Tank}
use Rattle.recent.specs.Recent.{average_of}
use Rattle.recent.specs.declared.Recent.{Recent}
use Rattle.recent_laws.proofs.Average.{kept_average, average_fits}
use Rattle.recent_laws.proofs.Kept.{none_at_first}
use Rattle.recent_laws.specs.Kept.{recent_of}
use Rattle.registers.specs.Registers.{remaining_capacity, full_charge_capacity}
use Rattle.runs.proofs.Minute.{of_samples, minute_after, latest_after, latest_fits}
use Rattle.runs.specs.Since.{Measures, measures_of, measures_after, milliseconds, latest_current, Signed16, charge_over}
use Rattle.seconds.specs.Seconds.{recent_after}
use Rattle.start.specs.SetUp as start
use Rattle.start.specs.declared.Setup.{Setup}
use Rattle.tank.proofs.Steps.{no-close}
use Rattle.tank.specs.Charge.{charge_after}
use Rattle.tank.specs.Tank.{charge_moved, closed, seen_of, tank_after}
use Rattle.thirteen.specs.Transact.{transact_of}
use Rattle.thirteen_laws.proofs.Sound.{goes_on, step_sound, sound_when_served}
use Rattle.thirteen_laws.specs.Events.{Event, sample, call, step, run, samples_of}
use Rattle.thirteen_laws.specs.Since.{AsOne, from_set_up, unlimited, AsThePack, WordsAsOne, ChargeSinceSetUp, FullStays, AverageSinceSetUp}
use Rattle.thirteen_pack.proofs.Facts.{facts_of_sound}
use Rattle.thirteen_pack.specs.Sample.{sampled_of}
use Rattle.thirteen_pack.specs.SetUp.{pack_of, zero_state, set_up_of}
use Rattle.thirteen_pack.specs.Sound.{sound_of}
use Rattle.thirteen_pack.specs.declared.Thirteen.{Thirteen}
use Rattle.pack.specs.declared.Answered.{Answered}
use Rattle.thirteen_pack.specs.declared.ThirteenState.{ThirteenState}
use Rattle.thirteen_words.specs.Word.{given_of}
use Rattle.words.specs.Words.{below}

-- ---- a sample does to both the same

-- with no limit no sample closes a run
none_closes : (s : Settings) (t : Tank) (x : Latest) (elapsed : ℕ) → closed (unlimited s) t x elapsed ≡ false
unfolding seen_of
none_closes s t x elapsed =
    let ends : discharge_ends x.voltage x.current 0 ≡ false =
    ap (λ (b : Bool). below x.current && b) (le-ltb x.voltage 0 (omega arith)) ∙ and-false (below x.current) in
    ap (λ (b : Bool). t.run.opened && not (eqb (charge_moved t x elapsed) (milliamp_ms t.full)) && b) ends
    ∙ and-false (t.run.opened && not (eqb (charge_moved t x elapsed) (milliamp_ms t.full)))

-- equal charge, full and bit 4 give equal ones
same_charge : (current elapsed : ℕ) {charge charge' full full' : ℕ} → charge ≡ charge' → full ≡ full'
    → charge_after charge full current elapsed ≡ charge_after charge' full' current elapsed
same_charge current elapsed e f = rw (e, f)

same_bit : {before before' : Bool} {charge charge' full full' : ℕ} → before ≡ before' → charge ≡ charge' → full ≡ full'
    → fully_discharged_of before charge full ≡ fully_discharged_of before' charge' full'
same_bit d e f = rw (d, e, f)

sampled_as_one : (s : Settings) (p : Thirteen) (m : Measures) (x : Sample) (cells : List ℕ) → AsOne p m
    → AsOne (sampled_of p x cells) (measures_after (unlimited s) m (x ∷ []))
unfolding sampled_of tank_after
sampled_as_one s p m x cells a =
    let current = (latest_of x).current in
    let elapsed = elapsed_of x.counter m.latest.counter in
    let time : elapsed_of x.counter p.latest.counter ≡ elapsed = ap (λ (l : Latest). elapsed_of x.counter l.counter) a.latest in
    let kept = no-close (unlimited s) m.tank (latest_of x) elapsed (none_closes s m.tank (latest_of x) elapsed) in
    let full : p.level.full ≡ (tank_after (unlimited s) m.tank (latest_of x) elapsed).full = a.full ∙ sym kept.0 in
    let charge : charge_after p.level.charge p.level.full current (elapsed_of x.counter p.latest.counter) ≡ (tank_after (unlimited s) m.tank (latest_of x) elapsed).charge =
    ap (λ (t : ℕ). charge_after p.level.charge p.level.full current t) time ∙ same_charge current elapsed a.charge a.full ∙ sym kept.1 in
    record {
      latest = refl;
      recent = ap (λ (t : ℕ). recent_after p.recent current t) time ∙ ap (λ (r : Recent). recent_after r current elapsed) a.recent;
      charge = charge;
      full = full;
      FullyDischarged = same_bit a.FullyDischarged charge full;
    }

after : (s : Settings) (t : ThirteenState) (m : Measures) (es : List Event) → sound_of t ≡ true → AsOne t.pack m
    → AsOne (run t es).pack (measures_after (unlimited s) m (samples_of es))
unfolding transact_of
after s t m [] h a = a
after s t m (sample x cells ∷ es) h a =
    after s (step t (sample x cells)) _ es (step_sound t (sample x cells) h)
    (subst (λ (u : ThirteenState). AsOne u.pack (measures_after (unlimited s) m (x ∷ []))) (sym (goes_on t x cells h)) (sampled_as_one s t.pack m x cells a))
after s t m (call c ∷ es) h a = after s (step t (call c)) m es (step_sound t (call c) h) a

-- ---- from set-up on

-- what a served set-up gives
set_up_pack : (u : Setup) (health : ℕ) (first : Sample) (cells : List ℕ) → (set_up_of u health first cells).answer ≡ 0
    → from_set_up u health first cells ≡ record { error = 0; pack = pack_of u health first cells }
unfolding set_up_of
set_up_pack u health first cells = go (start.set_up_refused u)
  where
    served-by : Answered ThirteenState
    served-by = record { answer = 0; state = record { error = 0; pack = pack_of u health first cells } }

    go : (b : Bool) → (cond b (record { answer = 11; state = zero_state }) served-by).answer ≡ 0
        → (cond b (record { answer = 11; state = zero_state }) served-by).state ≡ record { error = 0; pack = pack_of u health first cells }
    go true e = absurd (omega (arith, e))
    go false e = refl

set_up_sound : (u : Setup) (health : ℕ) (first : Sample) (cells : List ℕ) → (set_up_of u health first cells).answer ≡ 0 → sound_of (from_set_up u health first cells) ≡ true
set_up_sound u health first cells e = sound_when_served u health first cells ∙ eq-eqb _ _ e

pub as_the_pack : AsThePack
unfolding pack_of start.pack_of
as_the_pack u health first cells es e =
    after (start.settings_of u) (from_set_up u health first cells) (measures_of (start.pack_of u first)) es (set_up_sound u health first cells e)
    (subst (λ (s : ThirteenState). AsOne s.pack (measures_of (start.pack_of u first))) (sym (set_up_pack u health first cells e))
    (record { latest = refl; recent = refl; charge = refl; full = refl; FullyDischarged = refl }))

pub words_as_one : WordsAsOne
unfolding given_of gauge.given_of remaining_capacity full_charge_capacity
words_as_one p s a mode = (
  rw a.latest,
  rw (a.charge, a.full),
  rw (a.latest, a.charge, mode),
  rw (a.latest, a.recent, a.charge, a.full, mode),
)

-- ---- charge and full

pub full_after : (t : ThirteenState) (es : List Event) → sound_of t ≡ true → (run t es).pack.level.full ≡ t.pack.level.full
unfolding transact_of sampled_of
full_after t [] h = refl
full_after t (sample x cells ∷ es) h =
    full_after (step t (sample x cells)) es (step_sound t (sample x cells) h) ∙ ap (λ (u : ThirteenState). u.pack.level.full) (goes_on t x cells h)
full_after t (call c ∷ es) h = full_after (step t (call c)) es (step_sound t (call c) h)

pub full_stays : FullStays
unfolding pack_of
full_stays u health first cells es e =
    full_after (from_set_up u health first cells) es (set_up_sound u health first cells e) ∙ ap (λ (s : ThirteenState). s.pack.level.full) (set_up_pack u health first cells e)

-- what further samples make of what a pack holds
abbrev onward : List Sample → Thirteen → ℤ
onward xs p = charge_over p.level.full (pos p.level.charge) p.latest.counter xs

moved : (t : ThirteenState) (x : Sample) (cells : List ℕ) (xs : List Sample) → sound_of t ≡ true → SFits w16 x.current
    → onward xs (sampled_of t.pack x cells) ≡ onward (x ∷ xs) t.pack
unfolding sampled_of
moved t x cells xs h f =
    let l = t.pack.level in
    ap (λ (z : ℤ). charge_over l.full z x.counter xs)
    (charge_true l.charge l.full (elapsed_of x.counter t.pack.latest.counter) x f (facts_of_sound t h).charge)

charge-after : (t : ThirteenState) (es : List Event) → sound_of t ≡ true → Signed16 (samples_of es) → pos (run t es).pack.level.charge ≡ onward (samples_of es) t.pack
unfolding transact_of
charge-after t [] h f = refl
charge-after t (sample x cells ∷ es) h f =
    charge-after (step t (sample x cells)) es (step_sound t (sample x cells) h) f.1
    ∙ ap (λ (u : ThirteenState). onward (samples_of es) u.pack) (goes_on t x cells h) ∙ moved t x cells (samples_of es) h f.0
charge-after t (call c ∷ es) h f = charge-after (step t (call c)) es (step_sound t (call c) h) f

pub charge_since_set_up : ChargeSinceSetUp
unfolding pack_of
charge_since_set_up u health first cells es e f =
    charge-after (from_set_up u health first cells) es (set_up_sound u health first cells e) f
    ∙ ap (λ (s : ThirteenState). onward (samples_of es) s.pack) (set_up_pack u health first cells e)

-- ---- the average

pub average_since_set_up : AverageSinceSetUp
unfolding start.pack_of
average_since_set_up u health first cells es e f =
    let one = as_the_pack u health first cells es e in
    let settings = unlimited (start.settings_of u) in
    let begin = measures_of (start.pack_of u first) in
    let xs = samples_of es in
    let l = milliseconds first.counter xs in
    let all = of_samples first.counter xs f.1 in
    let p = (run (from_set_up u health first cells) es).pack in
    let recent : p.recent ≡ recent_of l = one.recent ∙ minute_after settings begin xs [] tt f.1 none_at_first in
    let latest : p.latest.current ≡ of_z w16 (latest_current first xs) = ap (λ (x : Latest). x.current) one.latest ∙ latest_after settings begin first xs refl in
    ap (to_z w16)
    (ap (λ (r : Recent). average_of r p.latest.current) recent ∙ ap (average_of (recent_of l)) latest ∙ kept_average l (latest_current first xs) all)
    ∙ to_z-of_z (average_fits l (latest_current first xs) all (latest_fits first xs f))
