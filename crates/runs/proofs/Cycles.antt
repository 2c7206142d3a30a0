-- The cycle number and what is kept toward the next, from all charge drawn.
-- Assumes nothing.
use Prim.Native.Nat.{ℕ, ◌+◌, ◌*◌, ◌/◌, ◌%◌, ◌<◌, min}
use mathlib.Core.Bool.{Bool, true, false, cond, ◌&&◌, true≢false}
use mathlib.Core.List.{List, [], ◌∷◌, ◌++◌}
use mathlib.Core.Path.{◌≡◌, refl, ap, ap₂, ◌∙◌, sym, subst, subst⁻¹}
use native.Mathlib.Nat.{zero-add, mod-eq_of_lt, mod-add-mod, div-eq_of_lt, div-add-mod', mul-add-div_right}
use native.Mathlib.Omega.{arith}
use lib.IntN.{pos, nat_abs}
use lib.Signed.{lt_z}
use Rattle.capacity.specs.Capacity.{milliamp_ms}
use Rattle.clock_laws.proofs.Charge.{drawn_true}
use Rattle.clock_laws.specs.Steps.{gap}
use Rattle.cycles.specs.Cycles.{drawn_by}
use Rattle.gauge.specs.Word.{given_of}
use Rattle.pack.proofs.Soundness.{toward_fact, parts, pack_of_sound}
use Rattle.pack.specs.Kept.{latest_of}
use Rattle.pack.specs.Sound.{sound_of}
use Rattle.pack.specs.declared.Latest.{Latest}
use Rattle.pack.specs.declared.Pack.{Pack}
use Rattle.pack.specs.declared.Sample.{Sample}
use Rattle.pack.specs.declared.Settings.{Settings}
use Rattle.pack.specs.declared.State.{State}
use Rattle.pack.specs.declared.Tank.{Tank}
use Rattle.runs.proofs.Histories.{step_sound}
use Rattle.runs.proofs.Measures.{set_up_sound, set_up_pack}
use Rattle.runs.proofs.Tank.{tank_stays, settings_stay, tank-sampled, settings-sampled}
use Rattle.runs.specs.Closes.{drawn_over}
use Rattle.runs.specs.Events.{Event, sample, call, step, run, accepted, accepted_of}
use Rattle.runs.specs.Learned.{Cycled, CyclesFrom, CyclesSinceSetUp, TowardSinceSetUp}
use Rattle.runs.specs.Since.{from_set_up, Signed16}
use Rattle.start.specs.SetUp.{set_up_of, tank_of, pack_of}
use Rattle.start.specs.declared.Setup.{Setup}
use Rattle.tank.specs.Tank.{tank_after}

-- ---- what is drawn, by the current's word

abbrev pub drawn_word : State → Event → ℕ
drawn_word s (sample x n) = cond (accepted s (sample x n)) (drawn_by (latest_of x).current (gap s.pack x)) 0
drawn_word s (call c) = 0

abbrev pub drawn_words : State → List Event → ℕ
drawn_words s [] = 0
drawn_words s (e ∷ es) = drawn_word s e + drawn_words (step s e) es

pub words_append : (s : State) (es fs : List Event) → drawn_words s (es ++ fs) ≡ drawn_words s es + drawn_words (run s es) fs
words_append s [] fs = omega arith
words_append s (e ∷ es) fs = omega (arith, words_append (step s e) es fs)

pub none_drawn : (s : State) (e : Event) → accepted s e ≡ false → drawn_word s e ≡ 0
none_drawn s (sample x n) a = ap (λ (b : Bool). cond b (drawn_by (latest_of x).current (gap s.pack x)) 0) a
none_drawn s (call c) a = refl

-- it is the integers'
pub words_true : (s : State) (es : List Event) → Signed16 (accepted_of s es) → drawn_over s es ≡ drawn_words s es
words_true s [] f = refl
words_true s (call c ∷ es) f = ap (λ (d : ℕ). 0 + d) (words_true (step s (call c)) es f)
words_true s (sample x n ∷ es) f = go (accepted s (sample x n)) (λ g. words_true (step s (sample x n)) es g) f
  where
    rest : List Sample
    rest = accepted_of (step s (sample x n)) es

    go : (b : Bool) → (Signed16 rest → drawn_over (step s (sample x n)) es ≡ drawn_words (step s (sample x n)) es) → Signed16 (cond b (x ∷ []) [] ++ rest)
        → cond (b && lt_z x.current (pos 0)) (nat_abs x.current * gap s.pack x) 0 + drawn_over (step s (sample x n)) es
        ≡ cond b (drawn_by (latest_of x).current (gap s.pack x)) 0 + drawn_words (step s (sample x n)) es
    go true more f = ap₂ ◌+◌ (sym (drawn_true (gap s.pack x) x f.0)) (more f.1)
    go false more f = ap (λ (d : ℕ). 0 + d) (more f)

-- ---- a part divided first, its remainder with the rest

quotient : (d m rest size : ℕ) → 0 < size → (d + (m + rest)) / size ≡ (d + m) / size + ((d + m) % size + rest) / size
quotient d m rest size h =
    let e : d + (m + rest) ≡ (d + m) / size * size + ((d + m) % size + rest) = omega (arith, div-add-mod' (d + m) size) in
    ap (λ (n : ℕ). n / size) e ∙ mul-add-div_right h ((d + m) / size) ((d + m) % size + rest)

remainder : (d m rest size : ℕ) → (d + (m + rest)) % size ≡ ((d + m) % size + rest) % size
remainder d m rest size =
    let e : d + (m + rest) ≡ d + m + rest = omega arith in
    ap (λ (n : ℕ). n % size) e ∙ sym (mod-add-mod (d + m) size rest)

-- nothing drawn
none_cycled : (design : ℕ) (t : Tank) → t.toward < milliamp_ms design → Cycled design t 0 t
none_cycled design t h =
    let sum : t.toward + 0 ≡ t.toward = omega arith in
    let none : (t.toward + 0) / milliamp_ms design ≡ 0 = ap (λ (n : ℕ). n / milliamp_ms design) sum ∙ div-eq_of_lt h in
    record { cycles = λ c. omega (arith, none, c); toward = sym (ap (λ (n : ℕ). n % milliamp_ms design) sum ∙ mod-eq_of_lt h) }

-- a sample, and then what later ones draw
one_cycled : (s : Settings) (t : Tank) (x : Latest) (elapsed rest : ℕ) (after : Tank) → t.toward < milliamp_ms s.DesignCapacity
    → Cycled s.DesignCapacity (tank_after s t x elapsed) rest after → Cycled s.DesignCapacity t (drawn_by x.current elapsed + rest) after
unfolding tank_after
one_cycled s t x elapsed rest after h k =
    let size = milliamp_ms s.DesignCapacity in
    let drawn = drawn_by x.current elapsed in
    record {
      cycles = λ c. omega (arith, k.cycles (omega arith), quotient t.toward drawn rest size (omega (arith, h)));
      toward = k.toward ∙ sym (remainder t.toward drawn rest size);
    }

-- an event, and then what later ones draw
then_cycled : (s : State) (e : Event) (rest : ℕ) (after : Tank) (b : Bool) → accepted s e ≡ b → s.pack.tank.toward < milliamp_ms s.pack.settings.DesignCapacity
    → Cycled (step s e).pack.settings.DesignCapacity (step s e).pack.tank rest after
    → Cycled s.pack.settings.DesignCapacity s.pack.tank (drawn_word s e + rest) after
then_cycled s (sample x n) rest after true a h k =
    let p = s.pack in
    let k1 = subst (λ (c : Settings). Cycled c.DesignCapacity (step s (sample x n)).pack.tank rest after) (settings-sampled s x n a) k in
    let k2 = subst (λ (t : Tank). Cycled p.settings.DesignCapacity t rest after) (tank-sampled s x n a) k1 in
    let drawn = ap (λ (b : Bool). cond b (drawn_by (latest_of x).current (gap p x)) 0 + rest) a in
    subst⁻¹ (λ (d : ℕ). Cycled p.settings.DesignCapacity p.tank d after) drawn (one_cycled p.settings p.tank (latest_of x) (gap p x) rest after h k2)
then_cycled s (call c) rest after true a h k = absurd (true≢false (sym a))
then_cycled s e rest after false a h k =
    let k1 = subst (λ (c : Settings). Cycled c.DesignCapacity (step s e).pack.tank rest after) (settings_stay s e a) k in
    let k2 = subst (λ (t : Tank). Cycled s.pack.settings.DesignCapacity t rest after) (tank_stays s e a) k1 in
    subst⁻¹ (λ (d : ℕ). Cycled s.pack.settings.DesignCapacity s.pack.tank d after) (ap (λ (d : ℕ). d + rest) (none_drawn s e a) ∙ zero-add rest) k2

toward_low : (s : State) → sound_of s ≡ true → s.pack.tank.toward < milliamp_ms s.pack.settings.DesignCapacity
toward_low s h = toward_fact s.pack.settings.DesignCapacity s.pack.tank.toward (parts s.pack (pack_of_sound s h)).toward

over : (s : State) (es : List Event) → sound_of s ≡ true
    → Cycled s.pack.settings.DesignCapacity s.pack.tank (drawn_words s es) (run s es).pack.tank
over s [] h = none_cycled s.pack.settings.DesignCapacity s.pack.tank (toward_low s h)
over s (e ∷ es) h =
    then_cycled s e (drawn_words (step s e) es) (run s (e ∷ es)).pack.tank (accepted s e) refl (toward_low s h) (over (step s e) es (step_sound s e h))

pub cycles_from : CyclesFrom
cycles_from s es h f =
    subst⁻¹ (λ (d : ℕ). Cycled s.pack.settings.DesignCapacity s.pack.tank d (run s es).pack.tank) (words_true s es f) (over s es h)

-- ---- since set-up

since : (u : Setup) (first : Sample) (es : List Event) → (set_up_of u first).answer ≡ 0 → Signed16 (accepted_of (from_set_up u first) es)
    → Cycled u.DesignCapacity (tank_of u) (drawn_over (from_set_up u first) es) (run (from_set_up u first) es).pack.tank
unfolding pack_of
since u first es a f =
    let s = from_set_up u first in
    subst (λ (q : Pack). Cycled q.settings.DesignCapacity q.tank (drawn_over s es) (run s es).pack.tank) (set_up_pack u first a)
    (cycles_from s es (set_up_sound u first a) f)

pub cycles_since_set_up : CyclesSinceSetUp
unfolding given_of
cycles_since_set_up u first es a l f =
    (since u first es a f).cycles (omega (arith, l)) ∙ ap (λ (d : ℕ). min 65535 (u.CycleCount + d / milliamp_ms u.DesignCapacity)) (zero-add (drawn_over (from_set_up u first) es))

pub toward_since_set_up : TowardSinceSetUp
toward_since_set_up u first es a f =
    (since u first es a f).toward ∙ ap (λ (d : ℕ). d % milliamp_ms u.DesignCapacity) (zero-add (drawn_over (from_set_up u first) es))
