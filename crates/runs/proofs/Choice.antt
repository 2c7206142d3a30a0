-- The choice of plain changes the broadcasts' form and nothing else.
-- Assumes nothing.
use Prim.Native.Nat.{ℕ, ◌≤◌}
use mathlib.Core.Bool.{Bool, true, false, cond, not}
use mathlib.Core.List.{List, [], ◌∷◌, ◌++◌, map}
use mathlib.Core.Path.{◌≡◌, refl, sym, ap, ap₂, ◌∙◌, subst}
use native.Mathlib.Omega.{arith}
use borrow.Author.Tests.{le-ltb}
use lib.Dec.{eqb, ltb}
use Rattle.broadcasts.specs.Broadcasts.{alarm_goes, charger_goes, alarms_of, charger_words_of, messages_of, broadcast_of, least_room}
use Rattle.bus.specs.Transact.{pack_side, pack_after, asked, transact_answer, transact_reply, transact_of}
use Rattle.bus_laws.specs.Calls.{Call, answer, reply, result}
use Rattle.clock.specs.Broadcast.{sampled_of, sample_of, served_sample, refused_sample}
use Rattle.clock.specs.Sample.{moved_of}
use Rattle.clock.specs.declared.Sampled.{Sampled}
use Rattle.commands.specs.Answers.{Side, side_answer, side_reply, code_after, served}
use Rattle.frame.specs.Broadcasts.{all_sent}
use Rattle.frame.specs.declared.Message.{Message}
use Rattle.frame.specs.declared.Request.{Request}
use Rattle.frame.specs.declared.Request.TheVariants.{Refused, Read, Write}
use Rattle.frame_laws.proofs.Broadcasts.{pec_off}
use Rattle.frame_laws.specs.Broadcasts.{without_pec}
use Rattle.gauge.specs.Word.{given_of}
use Rattle.pack.proofs.Choice.{sound_as}
use Rattle.pack.specs.Choice.{pack_as, state_as}
use Rattle.pack.specs.Sound.{sound_of, pack_sound, settings_sound}
use Rattle.pack.specs.declared.Pack.{Pack}
use Rattle.pack.specs.declared.Sample.{Sample}
use Rattle.pack.specs.declared.State.{State}
use Rattle.registers.specs.Registers.{remaining_capacity, full_charge_capacity, design_capacity}
use Rattle.runs.specs.Choice.{setup_as, Roomy, reply_to, ButForPec, PecTakenOff, PecTakenOffFrom}
use Rattle.runs.specs.Events.{Event, sample, call, step, Throughout, answer_to, accepted, sent, broadcasts}
use Rattle.runs.specs.Since.{from_set_up}
use Rattle.start.specs.SetUp.{set_up_of, pack_of, set_up_refused, zero_state}
use Rattle.start.specs.declared.Setup.{Setup}
use Rattle.pack.specs.declared.Answered.{Answered}
use Rattle.status.specs.Status.{status_bits}
use Rattle.tank.specs.Tank.{seen_of, tank_after}
use Rattle.written.specs.Written.{pack_written}

-- ---- what the choice has no part in

-- the pack after a sample
sampled_as : (plain : Bool) (p : Pack) (x : Sample) → sampled_of (pack_as plain p) x ≡ pack_as plain (sampled_of p x)
unfolding sampled_of moved_of tank_after seen_of alarm_goes charger_goes remaining_capacity
sampled_as plain p x = refl

-- the messages
messages_as : (plain : Bool) (p : Pack) (x : Sample) → messages_of (moved_of (pack_as plain p) x) ≡ messages_of (moved_of p x)
unfolding moved_of tank_after seen_of alarms_of charger_words_of alarm_goes charger_goes remaining_capacity status_bits
messages_as plain p x = refl

-- the pack's side of the bus: its words, and that it is sound
side_as : (plain : Bool) (s : State) (service factory : List ℕ) → pack_side (state_as plain s) service factory ≡ pack_side s service factory
unfolding sound_of pack_sound settings_sound given_of remaining_capacity full_charge_capacity design_capacity status_bits
side_as plain s service factory = refl

-- what a request leaves of the pack
after_as : (plain : Bool) (p : Pack) (q : Request) (n : ℕ) → pack_after (pack_as plain p) q n ≡ pack_as plain (pack_after p q n)
unfolding pack_written
after_as plain p (Refused m) n = refl
after_as plain p (Read command) n = refl
after_as plain p (Write command word checked) n = either (served n)
  where
    either : (b : Bool) → cond b (pack_written (pack_as plain p) command word) (pack_as plain p) ≡ pack_as plain (cond b (pack_written p command word) p)
    either true = refl
    either false = refl

-- ---- one event

-- with 20 bytes no choice refuses for the room
room_enough : (plain : Bool) (n : ℕ) → 20 ≤ n → ltb n (least_room plain) ≡ false
room_enough true n h = le-ltb n 16 (omega (arith, h))
room_enough false n h = le-ltb n 20 h

module _ (plain : Bool) (s : State) where
  -- a sample's outcome, by soundness alone
  outcome-as : (x : Sample) (n : ℕ) → 20 ≤ n → sample_of (state_as plain s) x n ≡ cond (not (sound_of s)) (refused_sample 1 (state_as plain s)) (served_sample (state_as plain s) x)
  unfolding sample_of
  outcome-as x n h =
      ap₂ (λ (sound : Bool) (small : Bool). cond (not sound) (refused_sample 1 (state_as plain s)) (cond small (refused_sample 2 (state_as plain s)) (served_sample (state_as plain s) x)))
      (sound_as plain s) (room_enough plain n h)

  sample-answer : (x : Sample) (n : ℕ) → 20 ≤ n → (sample_of (state_as plain s) x n).answer ≡ cond (not (sound_of s)) 1 0
  sample-answer x n h = ap (λ (r : Sampled). r.answer) (outcome-as x n h) ∙ either (sound_of s)
    where
      either : (b : Bool) → (cond {A = Sampled} (not b) (refused_sample 1 (state_as plain s)) (served_sample (state_as plain s) x)).answer ≡ cond (not b) 1 0
      either true = refl
      either false = refl

  sample-state : (x : Sample) (n : ℕ) → 20 ≤ n
      → (sample_of (state_as plain s) x n).state ≡ state_as plain (cond (not (sound_of s)) s (record { error = s.error; pack = sampled_of s.pack x }))
  sample-state x n h = ap (λ (r : Sampled). r.state) (outcome-as x n h) ∙ either (sound_of s)
    where
      either : (b : Bool)
          → (cond {A = Sampled} (not b) (refused_sample 1 (state_as plain s)) (served_sample (state_as plain s) x)).state
          ≡ state_as plain (cond (not b) s (record { error = s.error; pack = sampled_of s.pack x }))
      either true = ap (λ (p : Pack). record { error = s.error; pack = p }) (sampled_as plain s.pack x)
      either false = refl

  call-answer : (c : Call) → answer (state_as plain s) c ≡ answer s c
  unfolding transact_answer
  call-answer c = ap (λ (side : Side). side_answer side (asked c.read c.bytes) c.room) (side_as plain s c.service c.factory)

  call-reply : (c : Call) → reply (state_as plain s) c ≡ reply s c
  unfolding transact_reply
  call-reply c =
      ap₂ (λ (side : Side) (n : ℕ). side_reply side c.bytes (asked c.read c.bytes) n) (side_as plain s c.service c.factory) (call-answer c)

  call-state : (c : Call) → (result (state_as plain s) c).state ≡ state_as plain (result s c).state
  unfolding transact_of
  call-state c =
      ap₂ (λ (n : ℕ) (p : Pack). record { error = code_after n s.error; pack = p }) (call-answer c)
      (ap (pack_after (pack_as plain s.pack) (asked c.read c.bytes)) (call-answer c) ∙ after_as plain s.pack (asked c.read c.bytes) (answer s c))

-- what an event leaves, whatever the choice
abbrev next : State → Event → State
next s (sample x n) = cond (not (sound_of s)) s (record { error = s.error; pack = sampled_of s.pack x })
next s (call c) = (result s c).state

step_as : (plain : Bool) (s : State) (e : Event) → Roomy s e → step (state_as plain s) e ≡ state_as plain (next s e)
step_as plain s (sample x n) h = sample-state plain s x n h
step_as plain s (call c) h = call-state plain s c

-- the answer and the reply are the same
answer_as : (s : State) (e : Event) → Roomy s e → answer_to (state_as true s) e ≡ answer_to (state_as false s) e
answer_as s (sample x n) h = sample-answer true s x n h ∙ sym (sample-answer false s x n h)
answer_as s (call c) h = call-answer true s c ∙ sym (call-answer false s c)

reply_as : (s : State) (e : Event) → reply_to (state_as true s) e ≡ reply_to (state_as false s) e
reply_as s (sample x n) = refl
reply_as s (call c) = call-reply true s c ∙ sym (call-reply false s c)

-- the same samples are accepted
accepted_as : (s : State) (e : Event) → Roomy s e → accepted (state_as true s) e ≡ accepted (state_as false s) e
accepted_as s (sample x n) h = ap (λ (n : ℕ). eqb n 0) (answer_as s (sample x n) h)
accepted_as s (call c) h = refl

-- a broadcast with the PEC taken off is the plain one
broadcast_as : (p : Pack) (x : Sample) → broadcast_of (moved_of (pack_as true p) x) ≡ without_pec (broadcast_of (moved_of (pack_as false p) x))
unfolding moved_of
broadcast_as p x =
    ap (all_sent true) (messages_as true p x) ∙ sym (pec_off (messages_of (moved_of p x))) ∙ ap (λ (ms : List Message). without_pec (all_sent false ms)) (sym (messages_as false p x))

sent-as : (s : State) (e : Event) → Roomy s e → sent (state_as true s) e ≡ without_pec (sent (state_as false s) e)
sent-as s (sample x n) h =
    ap₂ (λ (b : Bool) (bytes : List ℕ). cond b bytes []) (accepted_as s (sample x n) h) (broadcast_as s.pack x) ∙ either (accepted (state_as false s) (sample x n)) _
  where
    either : (b : Bool) (bytes : List ℕ) → cond b (without_pec bytes) [] ≡ without_pec (cond b bytes [])
    either true bytes = refl
    either false bytes = refl
sent-as s (call c) h = refl

-- ---- a history

-- one broadcast more, or none
one_more : (b : Bool) (bytes : List ℕ) (rest : List (List ℕ)) → cond b (without_pec bytes ∷ []) [] ++ map without_pec rest ≡ map without_pec (cond b (bytes ∷ []) [] ++ rest)
one_more true bytes rest = refl
one_more false bytes rest = refl

pub pec_taken_off_from : PecTakenOffFrom
pec_taken_off_from s [] h = record { state = refl; broadcast = refl; answers = tt }
pec_taken_off_from s (e ∷ es) h =
    let with-pec = step_as false s e (roomy e h.0) in
    let plain = step_as true s e (roomy e h.0) in
    let later = pec_taken_off_from (next s e) es (subst (λ (t : State). Throughout Roomy t es) with-pec h.1) in
    let rest = subst (λ (t : State). ButForPec t (step (state_as true s) e) es) (sym with-pec) (subst (λ (t : State). ButForPec (state_as false (next s e)) t es) (sym plain) later) in
    record {
      state = rest.state;
      broadcast =
          ap₂ (λ (b : Bool) (bytes : List ℕ). cond b (bytes ∷ []) [] ++ broadcasts (step (state_as true s) e) es) (accepted_as s e (roomy e h.0)) (sent-as s e (roomy e h.0))
          ∙ ap (λ (more : List (List ℕ)). cond (accepted (state_as false s) e) (without_pec (sent (state_as false s) e) ∷ []) [] ++ more) rest.broadcast
          ∙ one_more (accepted (state_as false s) e) (sent (state_as false s) e) (broadcasts (step (state_as false s) e) es);
      answers = (answer_as s e (roomy e h.0), reply_as s e, rest.answers);
    }
  where
    roomy : (e : Event) → Roomy (state_as false s) e → Roomy s e
    roomy (sample x n) r = r
    roomy (call c) r = r

-- a served set-up with either choice
set_up_as : (plain : Bool) (u : Setup) (first : Sample) → (set_up_of u first).answer ≡ 0 → from_set_up (setup_as plain u) first ≡ state_as plain (from_set_up u first)
unfolding set_up_of pack_of
set_up_as plain u first = either (set_up_refused u)
  where
    none : Answered State
    none = record { answer = 11; state = zero_state }

    made : Setup → Answered State
    made v = record { answer = 0; state = record { error = 0; pack = pack_of v first } }

    either : (b : Bool) → (cond b none (made u)).answer ≡ 0 → (cond b none (made (setup_as plain u))).state ≡ state_as plain (cond b none (made u)).state
    either true h = absurd (omega (arith, h))
    either false h = refl

pub pec_taken_off : PecTakenOff
pec_taken_off u first es h r =
    let s = from_set_up u first in
    let with-pec = set_up_as false u first h in
    let both = pec_taken_off_from s es (subst (λ (t : State). Throughout Roomy t es) with-pec r) in
    subst (λ (t : State). ButForPec t (from_set_up (setup_as true u) first) es) (sym with-pec)
    (subst (λ (t : State). ButForPec (state_as false s) t es) (sym (set_up_as true u first h)) both)
