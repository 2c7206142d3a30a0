-- A history event by event, and what is carried from its first state to its last.
-- Assumes nothing.
use Prim.Native.Nat.{ℕ, ◌+◌}
use mathlib.Core.Bool.{Bool, true, false, cond, not, true≢false}
use mathlib.Core.List.{List, [], ◌∷◌}
use mathlib.Core.Logic.{inl, inr}
use mathlib.Core.Path.{◌≡◌, refl, sym, ap, ◌∙◌, subst⁻¹}
use borrow.Author.Tests.{not-true}
use lib.Dec.{eqb}
use Rattle.bus.specs.Transact.{pack_after, asked, transact_of}
use Rattle.bus_laws.proofs.Served as calls
use Rattle.bus_laws.proofs.Soundness.{sound_stays}
use Rattle.bus_laws.specs.Calls.{Call, result, answer, Writes}
use Rattle.chatter.proofs.Idle.{either}
use Rattle.clock.proofs.Outcome.{outcome}
use Rattle.clock.specs.Broadcast.{sampled_of}
use Rattle.clock.specs.Sample.{elapsed_of}
use Rattle.clock_laws.proofs.Sound.{sample_sound}
use Rattle.clock_laws.specs.Steps.{gap}
use Rattle.commands.specs.Answers.{served}
use Rattle.frame_laws.proofs.Requests.{write_is}
use Rattle.frame.specs.declared.Request.{Request}
use Rattle.frame.specs.declared.Request.TheVariants.{Refused, Read, Write}
use Rattle.pack.proofs.Soundness.{timers_facts, parts, pack_of_sound}
use Rattle.pack.specs.Facts.{TimersFacts}
use Rattle.pack.specs.Sound.{sound_of}
use Rattle.pack.specs.declared.Pack.{Pack}
use Rattle.pack.specs.declared.Sample.{Sample}
use Rattle.pack.specs.declared.State.{State}
use Rattle.runs.specs.Events.{Event, sample, call, step, run, Throughout, accepted, taken, passes, time_of, ServedWrite, IdleEvent}
use Rattle.runs.specs.Histories.{Took, Left, Still, History, done, still-then, took-then}
use Rattle.runs.specs.Promises.{RunSound, SeenThrough, IdleKeep}
use Rattle.written.specs.Written.{pack_written}

-- every event leaves a sound state sound
pub step_sound : (s : State) (e : Event) → sound_of s ≡ true → sound_of (step s e) ≡ true
step_sound s (sample x n) h = sample_sound s x n h
step_sound s (call c) h = sound_stays s c h

pub run-sound : RunSound
run-sound s [] h = h
run-sound s (e ∷ es) h = run-sound (step s e) es (step_sound s e h)

-- the timers of a sound state
pub timers_of : (s : State) → sound_of s ≡ true → TimersFacts s.pack.host s.pack.timers
timers_of s h = timers_facts s.pack.host s.pack.timers (parts s.pack (pack_of_sound s h)).timers

-- ---- an idle event

refused-sample : (s : State) (x : Sample) (n : ℕ) → IdleEvent s (sample x n) → accepted s (sample x n) ≡ false
refused-sample s x n i = not-true (accepted s (sample x n)) i

pub idle_keeps : (s : State) (e : Event) → IdleEvent s e → (step s e).pack ≡ s.pack
idle_keeps s (sample x n) i =
    outcome (λ r. eqb r.answer 0 ≡ false → r.state.pack ≡ s.pack) s x n (λ z. refl) (λ z. refl) (λ h z. absurd (true≢false z)) (refused-sample s x n i)
idle_keeps s (call c) i = calls.idle_keeps s c (either c.read (served (answer s c)) i)

pub idle_keep : IdleKeep
idle_keep s [] i = refl
idle_keep s (e ∷ es) (i, is) = idle_keep (step s e) es is ∙ idle_keeps s e i

none_of : (s : State) (x : Sample) (n : ℕ) → accepted s (sample x n) ≡ false
    → (accepted s (sample x n) ≡ false) × (taken s (sample x n) ≡ []) × (passes s (sample x n) ≡ 0)
none_of s x n a = (a, ap (λ (b : Bool). cond b (x ∷ []) []) a, ap (λ (b : Bool). cond b (elapsed_of x.counter s.pack.latest.counter) 0) a)

-- it isn't accepted, adds no sample and takes no time
pub idle_none : (s : State) (e : Event) → IdleEvent s e → (accepted s e ≡ false) × (taken s e ≡ []) × (passes s e ≡ 0)
idle_none s (sample x n) i = none_of s x n (refused-sample s x n i)
idle_none s (call c) i = (refl, refl, refl)

-- ---- a history, event by event

call_left : (s : State) (c : Call) → Left s (call c) (result s c).state.pack
unfolding transact_of
call_left s c = go (asked c.read c.bytes) refl
  where
    by-write : (command word : ℕ) → Writes c command word → (v : Bool) → served (answer s c) ≡ v
        → Left s (call c) (cond v (pack_written s.pack command word) s.pack)
    by-write command word w true v = inr (command, word, (w, v), refl)
    by-write command word w false v = inl refl

    go : (q : Request) → asked c.read c.bytes ≡ q → Left s (call c) (pack_after s.pack q (answer s c))
    go (Refused n) e = inl refl
    go (Read command) e = inl refl
    go (Write command word checked) e =
        let b = (write_is 0x16 c.read c.bytes command word checked).0 e in
        by-write command word (b.0, (checked, b.1)) (served (answer s c)) refl

pub took : (s : State) (x : Sample) (n : ℕ) → accepted s (sample x n) ≡ true → Took s x n
took s x n a =
    record {
      is_accepted = a;
      one = ap (λ (b : Bool). cond b (x ∷ []) []) a;
      time = ap (λ (b : Bool). cond b (elapsed_of x.counter s.pack.latest.counter) 0) a;
      pack =
          outcome (λ r. eqb r.answer 0 ≡ true → r.state.pack ≡ sampled_of s.pack x) s x n (λ z. absurd (true≢false (sym z))) (λ z. absurd (true≢false (sym z)))
          (λ h z. refl) a;
    }

-- any event that isn't an accepted sample
pub still_of : (s : State) (e : Event) → accepted s e ≡ false → Still s e
still_of s (sample x n) a = let k = none_of s x n a in record { none = k.1; time = k.2; pack = inl (idle_keeps s (sample x n) (ap not a)) }
still_of s (call c) a = record { none = refl; time = refl; pack = call_left s c }

by_answer : (s : State) (x : Sample) (n : ℕ) (es : List Event) (b : Bool) → accepted s (sample x n) ≡ b → History (step s (sample x n)) es → History s (sample x n ∷ es)
by_answer s x n es true a r = took-then (took s x n a) r
by_answer s x n es false a r = still-then (still_of s (sample x n) a) r

pub seen_through : SeenThrough
seen_through s [] h = done
seen_through s (call c ∷ es) h =
    still-then (still_of s (call c) refl) (seen_through (step s (call c)) es (step_sound s (call c) h))
seen_through s (sample x n ∷ es) h =
    by_answer s x n es (accepted s (sample x n)) refl (seen_through (step s (sample x n)) es (step_sound s (sample x n) h))

-- ---- what is carried through a history

module _ (R : Pack → ℕ → Pack → Type 0) (A : State → Event → Type 0)
    (stays : (p : Pack) → R p 0 p)
    (joins : (p q r : Pack) (m n : ℕ) → R p m q → R q n r → R p (m + n) r)
    (writes : (s : State) (e : Event) (command word : ℕ) → A s e → ServedWrite s e command word → R s.pack 0 (pack_written s.pack command word))
    (samples : (s : State) (x : Sample) (n : ℕ) → A s (sample x n) → accepted s (sample x n) ≡ true → R s.pack (gap s.pack x) (sampled_of s.pack x)) where
  left : (s : State) (e : Event) (q : Pack) → A s e → Left s e q → R s.pack 0 q
  left s e q a (inl k) = subst⁻¹ (R s.pack 0) k (stays s.pack)
  left s e q a (inr (command, word, w, k)) = subst⁻¹ (R s.pack 0) k (writes s e command word a w)

  over : (s : State) (es : List Event) → History s es → Throughout A s es → R s.pack (time_of s es) (run s es).pack
  over s es done a = stays s.pack
  over s es (still-then {e = e} {es = later} w r) (a, more) =
      joins _ _ _ _ _ (subst⁻¹ (λ (t : ℕ). R s.pack t (step s e).pack) w.time (left s e (step s e).pack a w.pack)) (over (step s e) later r more)
  over s es (took-then {x = x} {n = n} {es = later} k r) (a, more) =
      joins _ _ _ _ _
      (subst⁻¹ (λ (t : ℕ). R s.pack t (step s (sample x n)).pack) k.time
      (subst⁻¹ (R s.pack (gap s.pack x)) k.pack (samples s x n a k.is_accepted)))
      (over (step s (sample x n)) later r more)

  -- what no event breaks holds between the first state and the last, over the time between
  pub carried : (s : State) (es : List Event) → sound_of s ≡ true → Throughout A s es → R s.pack (time_of s es) (run s es).pack
  carried s es h a = over s es (seen_through s es h) a

-- what writes leave alone only samples change
pub still_keeps : {B : Type 0} (f : Pack → B) → ((p : Pack) (command word : ℕ) → f (pack_written p command word) ≡ f p)
    → (s : State) (e : Event) → Still s e → f (step s e).pack ≡ f s.pack
still_keeps f w s e h = go (step s e).pack h.pack
  where
    go : (q : Pack) → Left s e q → f q ≡ f s.pack
    go q (inl k) = ap f k
    go q (inr (command, word, v, k)) = ap f k ∙ w s.pack command word
