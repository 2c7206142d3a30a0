-- What each part's test says, fact by fact, and back; a sound state's parts; the error code may change below 8.
-- Assumes nothing.
use Prim.Native.Nat.{ℕ, ◌<◌, ◌≤◌}
use mathlib.Core.Bool.{Bool, true, false, not, ◌||◌, and-eq-true_iff, false≢true}
use mathlib.Core.Path.{◌≡◌, refl, sym, ap, ◌∙◌}
use native.Mathlib.Omega.{arith}
use lib.Dec.{eqb}
use borrow.Author.Tests.{eq-eqb, ne_eqb, eqb-true, eqb-false, le-leb, leb-true, lt-ltb, ltb-true, not-true}
use Rattle.capacity.specs.Capacity.{milliamp_ms}
use Rattle.pack.specs.Facts.{SettingsFacts, TankFacts, RunFacts, TimersFacts, SoundParts}
use Rattle.pack.specs.Sound.{exactly, settings_sound, tank_sound, toward_sound, run_sound, timers_sound, error_sound, pack_sound, sound_of}
use Rattle.pack.specs.declared.Host.{Host}
use Rattle.pack.specs.declared.Pack.{Pack}
use Rattle.pack.specs.declared.Run.{Run}
use Rattle.pack.specs.declared.Settings.{Settings}
use Rattle.pack.specs.declared.State.{State}
use Rattle.pack.specs.declared.Tank.{Tank}
use Rattle.pack.specs.declared.Timers.{Timers}
use Rattle.recent.proofs.Soundness.{recent_facts}

-- a number that is not 0 is above 0
pub not_zero : (n : ℕ) → eqb n 0 ≡ false → 0 < n
not_zero n h = omega (arith, eqb-false n 0 h)

pub settings_facts : (s : Settings) → settings_sound s ≡ true → SettingsFacts s
unfolding settings_sound
settings_facts s h =
    let b = (and-eq-true_iff _ _).0 h in
    record { design = not_zero _ (not-true _ b.0); voltage = not_zero _ (not-true _ b.1) }

pub settings-sound : (s : Settings) → SettingsFacts s → settings_sound s ≡ true
unfolding settings_sound
settings-sound s f = simp (ne_eqb s.DesignCapacity 0 (omega arith), ne_eqb s.DesignVoltage 0 (omega arith))

pub tank_facts : (t : Tank) → tank_sound t ≡ true → TankFacts t
unfolding tank_sound
tank_facts t h =
    let b = (and-eq-true_iff _ _).0 h in record { full = not_zero _ (not-true _ b.0); charge = leb-true _ _ b.1 }

pub tank-sound : (t : Tank) → TankFacts t → tank_sound t ≡ true
unfolding tank_sound
tank-sound t f = simp (ne_eqb t.full 0 (omega arith), le-leb _ _ f.charge)

pub toward_fact : (design toward : ℕ) → toward_sound design toward ≡ true → toward < milliamp_ms design
unfolding toward_sound
toward_fact design toward h = ltb-true _ _ h

pub toward-sound : (design toward : ℕ) → toward < milliamp_ms design → toward_sound design toward ≡ true
unfolding toward_sound
toward-sound design toward h = lt-ltb _ _ h

or_back : (a b : Bool) → (a ≡ false → b ≡ true) → a || b ≡ true
or_back true b f = refl
or_back false b f = f refl

pub run_facts : (u : Run) → run_sound u ≡ true → RunFacts u
unfolding run_sound
run_facts u h =
    let b = (and-eq-true_iff _ _).0 h in record { most = leb-true _ _ b.0; none = λ e. eqb-true _ _ (sym (ap (λ (o : Bool). o || eqb u.drawn 0) e) ∙ b.1) }

pub run-sound : (u : Run) → RunFacts u → run_sound u ≡ true
unfolding run_sound
run-sound u f = simp (le-leb _ _ f.most, or_back u.opened (eqb u.drawn 0) (λ e. eq-eqb _ _ (f.none e)))

follows : (a b : Bool) → not a || b ≡ true → a ≡ true → b ≡ true
follows true b h e = h
follows false b h e = absurd (false≢true e)

follows_back : (a b : Bool) → (a ≡ true → b ≡ true) → not a || b ≡ true
follows_back true b f = f refl
follows_back false b f = refl

exactly_there : (a b : Bool) → exactly a (not b) ≡ true → a ≡ true → b ≡ false
exactly_there true b h e = not-true b h
exactly_there false b h e = absurd (false≢true e)

exactly_back : (a b : Bool) → exactly a (not b) ≡ true → b ≡ false → a ≡ true
exactly_back true b h e = refl
exactly_back false true h e = sym e
exactly_back false false h e = h

exactly_both : (a b : Bool) → (a ≡ true → b ≡ false) → (b ≡ false → a ≡ true) → exactly a (not b) ≡ true
exactly_both true true f g = sym (f refl)
exactly_both true false f g = refl
exactly_both false true f g = refl
exactly_both false false f g = g refl

pub timers_facts : (h : Host) (t : Timers) → timers_sound h t ≡ true → TimersFacts h t
unfolding timers_sound
timers_facts h t e =
    let b4 = (and-eq-true_iff _ _).0 e in
    let b3 = (and-eq-true_iff _ _).0 b4.0 in
    let b2 = (and-eq-true_iff _ _).0 b3.0 in
    let b1 = (and-eq-true_iff _ _).0 b2.0 in
    record {
      hold = leb-true _ _ b1.0;
      alarm = leb-true _ _ b1.1;
      charger = leb-true _ _ b2.1;
      stands = λ m. eqb-true _ _ (follows _ _ b3.1 m);
      ended = λ z. exactly_there _ _ b4.1 (eq-eqb _ _ z);
      clear = λ m. eqb-true _ _ (exactly_back _ _ b4.1 m);
    }

pub timers-sound : (h : Host) (t : Timers) → TimersFacts h t → timers_sound h t ≡ true
unfolding timers_sound
timers-sound h t f =
    simp (
      le-leb _ _ f.hold,
      le-leb _ _ f.alarm,
      le-leb _ _ f.charger,
      follows_back h.ChargerMode (eqb t.charger 0) (λ m. eq-eqb _ _ (f.stands m)),
      exactly_both (eqb t.hold 0) h.AlarmMode (λ e. f.ended (eqb-true _ _ e)) (λ m. eq-eqb _ _ (f.clear m)),
    )

-- the parts of a sound pack, and back
pub parts : (p : Pack) → pack_sound p ≡ true → SoundParts p
unfolding pack_sound
parts p h =
    let b5 = (and-eq-true_iff _ _).0 h in
    let b4 = (and-eq-true_iff _ _).0 b5.0 in
    let b3 = (and-eq-true_iff _ _).0 b4.0 in
    let b2 = (and-eq-true_iff _ _).0 b3.0 in
    let b1 = (and-eq-true_iff _ _).0 b2.0 in
    record { settings = b1.0; tank = b1.1; toward = b2.1; run = b3.1; recent = b4.1; timers = b5.1 }

pub pack-sound : (p : Pack) → SoundParts p → pack_sound p ≡ true
unfolding pack_sound
pack-sound p f = simp (f.settings, f.tank, f.toward, f.run, f.recent, f.timers)

-- a sound state's pack is sound, its charge at most full, its error code at most 7, its count of seconds at most 60; and back
pub pack_of_sound : (s : State) → sound_of s ≡ true → pack_sound s.pack ≡ true
unfolding sound_of
pack_of_sound s h = ((and-eq-true_iff _ _).0 h).0

pub tank_of_sound : (s : State) → sound_of s ≡ true → TankFacts s.pack.tank
tank_of_sound s h = tank_facts s.pack.tank (parts s.pack (pack_of_sound s h)).tank

pub code_of_sound : (s : State) → sound_of s ≡ true → s.error ≤ 7
unfolding sound_of error_sound
code_of_sound s h = leb-true _ _ ((and-eq-true_iff (pack_sound s.pack) (error_sound s.error)).0 h).1

pub count_of_sound : (s : State) → sound_of s ≡ true → s.pack.recent.count ≤ 60
count_of_sound s h = (recent_facts s.pack.recent (parts s.pack (pack_of_sound s h)).recent).most

pub sound_state : (s : State) → pack_sound s.pack ≡ true → s.error ≤ 7 → sound_of s ≡ true
unfolding sound_of error_sound
sound_state s h l = simp (h, le-leb _ _ l)

-- a sound state with another error code of at most 7 is sound
pub with_error : (s : State) (code : ℕ) → code ≤ 7 → sound_of s ≡ true → sound_of (record { error = code; pack = s.pack }) ≡ true
with_error s code l h = sound_state _ (pack_of_sound s h) l
