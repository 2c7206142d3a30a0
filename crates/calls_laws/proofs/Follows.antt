-- What is proved of the pack's states holds of its areas.
-- Assumes nothing.
use Prim.Native.Nat.{ℕ}
use mathlib.Core.Bool.{Bool, true, false, ◌||◌}
use mathlib.Core.List.{List, [], ◌∷◌, map}
use mathlib.Core.Path.{◌≡◌, refl, sym, ap, ap₂, ◌∙◌, subst⁻¹}
use native.Mathlib.Omega.{arith}
use borrow.Author.Tests.{eqb-true}
use lib.Dec.{eqb}
use lib.ListN.{length, drop}
use Rattle.area.proofs.Whole.{read_back, area_is}
use Rattle.area.specs.Area.{area_of, state_in, is_area}
use Rattle.area_laws.proofs.Theorems.{error_first}
use Rattle.bus.specs.Transact.{request_given, asked, transact_answer, transact_of, reply_room}
use Rattle.calls.specs.Calls.{stays, area_after, sample_number, sample_area, sample_room, transact_number, transact_area, transact_room}
use Rattle.calls_laws.specs.Follows.{Lent, brings, hands, event_of, area_run, number_to, CallFollows, AreasFollow, ChatterInAreas, NextNumberIsSame}
use Rattle.chatter.specs.Struck.{Struck, none, stays as remains, strikes}
use Rattle.clock.proofs.Outcome.{outcome}
use Rattle.clock.specs.Broadcast.{sample_of, broadcast_room}
use Rattle.commands.specs.Answers.{code_after}
use Rattle.frame.specs.declared.Request.{Request}
use Rattle.frame.specs.declared.Request.TheVariants.{Refused, Read, Write}
use Rattle.pack.proofs.Soundness.{count_of_sound}
use Rattle.pack.specs.Fits.{Fits}
use Rattle.pack.specs.Sound.{sound_of}
use Rattle.pack.specs.declared.Sample.{Sample}
use Rattle.pack.specs.declared.State.{State}
use Rattle.packed.specs.Packed.{packed}
use Rattle.rooms.proofs.Choice.{chosen}
use Rattle.runs.proofs.Chatter.{chatter_is_idle, next_is_same}
use Rattle.runs.proofs.Fits.{step_fits, run_fits}
use Rattle.runs.proofs.Histories.{step_sound, run-sound}
use Rattle.runs.proofs.Measures.{set_up_sound}
use Rattle.runs.specs.Events.{Event, sample, call, step, run, Throughout, EventFits, answer_to}
use Rattle.runs.specs.Since.{from_set_up}
use Rattle.runs.specs.Struck.{length_to, pack_party}
use Rattle.start.proofs.Start.{start_fits}

-- ---- one call

-- answers 1 and 2 leave the state as it was
small_keeps : (s : State) (service factory bytes : List ℕ) (q : Request) (n : ℕ) → stays n ≡ true → (request_given s service factory bytes q n).state ≡ s
unfolding code_after
small_keeps s service factory bytes q n e = go (eqb n 1) refl e
  where
    at_1 : (q : Request) → (request_given s service factory bytes q 1).state ≡ s
    at_1 (Refused m) = refl
    at_1 (Read command) = refl
    at_1 (Write command word checked) = refl

    at-2 : (q : Request) → (request_given s service factory bytes q 2).state ≡ s
    at-2 (Refused m) = refl
    at-2 (Read command) = refl
    at-2 (Write command word checked) = refl

    go : (b : Bool) → eqb n 1 ≡ b → b || eqb n 2 ≡ true → (request_given s service factory bytes q n).state ≡ s
    go true f e = subst⁻¹ (λ (m : ℕ). (request_given s service factory bytes q m).state ≡ s) (eqb-true n 1 f) (at_1 q)
    go false f e = subst⁻¹ (λ (m : ℕ). (request_given s service factory bytes q m).state ≡ s) (eqb-true n 2 e) (at-2 q)

module _ (s : State) (h : sound_of s ≡ true) (f : Fits s) where
  back : state_in (area_of s) ≡ s
  back = read_back s f (omega (arith, count_of_sound s h))

  is : is_area (area_of s) ≡ true
  is = area_is s f

  sample-area : (x : Sample) (room : List ℕ) → sample_area (area_of s) x room ≡ area_of (step s (sample x (length room)))
  unfolding sample_area
  sample-area x room =
      rw (is, back) (outcome (λ r. area_after (area_of s) r.answer r.state ≡ area_of r.state) s x (length room) refl refl (λ k. refl))

  transact-area : (service factory : List ℕ) (read : Bool) (bytes room : List ℕ)
      → transact_area (area_of s) service factory read bytes room ≡ area_of (transact_of s service factory read bytes (length room)).state
  unfolding transact_area transact_of
  transact-area service factory read bytes room =
      let n = transact_answer s service factory read bytes (length room) in
      let t = (request_given s service factory bytes (asked read bytes) n).state in
      rw (is, back) (chosen (λ (a : List ℕ). a ≡ area_of t) (stays n) (λ e. sym (ap area_of (small_keeps s service factory bytes (asked read bytes) n e))) (λ e. refl))

  sample-number : (x : Sample) (room : List ℕ)
      → (sample_number (area_of s) x room ≡ packed (sample_of s x (length room)).answer (sample_of s x (length room)).length)
      × (sample_room (area_of s) x room ≡ broadcast_room s x room)
  unfolding sample_number sample_room
  sample-number x room = (rw (is, back), rw (is, back))

  transact-number : (service factory : List ℕ) (read : Bool) (bytes room : List ℕ)
      → (transact_number (area_of s) service factory read bytes room
      ≡ packed (transact_of s service factory read bytes (length room)).answer (transact_of s service factory read bytes (length room)).length)
      × (transact_room (area_of s) service factory read bytes room ≡ reply_room s service factory read bytes room)
  unfolding transact_number transact_room
  transact-number service factory read bytes room = (rw (is, back), rw (is, back))

-- the answer that comes with a result is the answer
result_answer : (s : State) (service factory : List ℕ) (read : Bool) (bytes : List ℕ) (room : ℕ)
    → (transact_of s service factory read bytes room).answer ≡ transact_answer s service factory read bytes room
unfolding transact_of
result_answer s service factory read bytes room = refl

pub call_follows : CallFollows
call_follows s (brings x room) h f =
    let both = sample-number s h f x room in record { area = sample-area s h f x room; number = both.0; room = both.1 }
call_follows s (hands service factory read bytes room) h f =
    let both = transact-number s h f service factory read bytes room in
    record {
      area = transact-area s h f service factory read bytes room;
      number =
          both.0
          ∙ ap (λ (n : ℕ). packed n (transact_of s service factory read bytes (length room)).length) (result_answer s service factory read bytes (length room));
      room = both.1;
    }

-- ---- every history

pub areas_follow : AreasFollow
areas_follow s [] h f t = refl
areas_follow s (l ∷ ls) h f (g, t) =
    ap (λ (a : List ℕ). area_run a ls) (call_follows s l h f).area
    ∙ areas_follow (step s (event_of l)) ls (step_sound s (event_of l) h) (step_fits s (event_of l) f g) t

-- ---- with idle calls struck out

-- what an event brings is what it brings in any state
fits_anywhere : (s t : State) (e : Event) → EventFits s e → EventFits t e
fits_anywhere s t (sample x n) f = f
fits_anywhere s t (call c) f = f

struck_fits : (s t : State) (es fs : List Event) → Struck pack_party s es fs → Throughout EventFits s es → Throughout EventFits t fs
struck_fits s t es fs none f = tt
struck_fits s t es fs (remains {e = e} {es = later} {fs = left} r) (f, more) =
    (fits_anywhere s t e f, struck_fits (step s e) (step t e) later left r more)
struck_fits s t es fs (strikes {e = e} {es = later} i r) (f, more) = struck_fits (step s e) t later fs r more

pub chatter_in_areas : ChatterInAreas
chatter_in_areas u first ls ks a fits g t r =
    let s = from_set_up u first in
    let h = set_up_sound u first a in
    let f = start_fits u first fits g in
    ap (λ (x : List ℕ). drop 1 x) (areas_follow s ls h f t)
    ∙ error_first (run s (map event_of ls)) (run s (map event_of ks)) (chatter_is_idle u first (map event_of ls) (map event_of ks) a r).unmoved.state.pack
    ∙ sym (ap (λ (x : List ℕ). drop 1 x) (areas_follow s ks h f (struck_fits s s (map event_of ls) (map event_of ks) r t)))

-- the number of a call after a history
number_after : (s : State) (ls : List Lent) (l : Lent) → sound_of s ≡ true → Fits s → Throughout EventFits s (map event_of ls)
    → number_to (area_run (area_of s) ls) l ≡ packed (answer_to (run s (map event_of ls)) (event_of l)) (length_to (run s (map event_of ls)) (event_of l))
number_after s ls l h f t =
    ap (λ (a : List ℕ). number_to a l) (areas_follow s ls h f t)
    ∙ (call_follows (run s (map event_of ls)) l (run-sound s (map event_of ls) h) (run_fits s (map event_of ls) f t)).number

pub next_number_is_same : NextNumberIsSame
next_number_is_same u first ls ks l a fits g t r =
    let s = from_set_up u first in
    let h = set_up_sound u first a in
    let f = start_fits u first fits g in
    let same = next_is_same s (map event_of ls) (map event_of ks) h r (event_of l) in
    number_after s ls l h f t
    ∙ ap₂ (λ (answer length : ℕ). packed answer length) same.answer same.length
    ∙ sym (number_after s ks l h f (struck_fits s s (map event_of ls) (map event_of ks) r t))
