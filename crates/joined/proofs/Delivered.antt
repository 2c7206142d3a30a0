-- What the charger takes of a broadcast, cut into messages and delivered one by one.
-- Assumes nothing.
use Prim.Native.Nat.{ℕ, zero, suc, ◌+◌, ◌-◌, ◌≤◌, ◌<◌}
use mathlib.Core.Bool.{Bool, true, false, cond, not, ◌&&◌, true≢false}
use mathlib.Core.List.{List, [], ◌∷◌, ◌++◌, map}
use mathlib.Core.Path.{◌≡◌, refl, sym, ap, ap₂, ◌∙◌}
use native.Mathlib.Omega.{arith}
use borrow.Author.Tests.{le-leb}
use lib.Dec.{eqb}
use lib.ListN.{length, take, drop, length-append, length-drop}
use lib.Seq.{take_at, drop_at, drop-drop}
use Rattle.alarms.specs.Alarms.{charger_alarm, charging_current}
use Rattle.broadcasts.specs.Broadcasts.{alarm_goes, charger_goes, alarms_of, charger_words_of, messages_of, broadcast_of}
use Rattle.charger.proofs.Answers.{by-outcome}
use Rattle.charger_state.specs.Charger.{sound_of as charger_sound}
use Rattle.charger.specs.Commands.{charger_kind}
use Rattle.charger.specs.Delivered.{is_message, message_at}
use Rattle.charger.specs.Transact.{asked, charger_after, transact_answer, transact_of}
use Rattle.charger_written.specs.Written.{charger_written}
use Rattle.charger_state.specs.declared.Charger.{Charger}
use Rattle.commands.specs.declared.Transacted.{Transacted}
use Rattle.charger_laws.proofs.Laws.{written_sound}
use Rattle.charger_laws.specs.Events as charger
use Rattle.clock.proofs.Outcome.{outcome}
use Rattle.clock.specs.Sample.{moved_of}
use Rattle.commands.specs.declared.Kind.TheVariants.{WriteOnly}
use Rattle.frame.proofs.Messages.{sent_size, some_size}
use Rattle.frame.specs.Broadcasts.{message_to, message_size, sent_as, all_sent}
use Rattle.frame.specs.Transactions.{request_of}
use Rattle.frame.specs.declared.Message.{Message}
use Rattle.frame.specs.declared.Request.{Request}
use Rattle.frame.specs.declared.Request.TheVariants.{Refused, Write}
use Rattle.frame_laws.proofs.Requests.{write_is}
use Rattle.joined.specs.Joined.{Tick, pack_sample, cut, messages_from, deliveries}
use Rattle.pack.specs.declared.Pack.{Pack}
use Rattle.pack.specs.declared.State.{State}
use Rattle.runs.specs.Events.{accepted}
use Rattle.status.specs.Status.{alarm_word}

-- ---- cutting

-- a whole message at the front of the rest
cut_one : (plain : Bool) (m : Message) (rest bytes : List ℕ) (at : ℕ) → drop at bytes ≡ sent_as plain m ++ rest
    → (message_at plain bytes at ≡ sent_as plain m) × (drop (at + message_size plain) bytes ≡ rest)
cut_one plain m rest bytes at e =
    let size = sent_size plain m in
    let n : length bytes - at ≡ length (sent_as plain m) + length rest = sym (length-drop at bytes) ∙ ap (λ (x : List ℕ). length x) e ∙ length-append (sent_as plain m) rest in
    let whole : is_message plain bytes at ≡ true = le-leb (at + message_size plain) (length bytes) (omega (arith, n, size, some_size plain)) in (
      simp whole (ap (λ (x : List ℕ). take (message_size plain) x) e ∙ take_at (sent_as plain m) rest (message_size plain) size),
      sym (drop-drop (message_size plain) at bytes) ∙ ap (λ (x : List ℕ). drop (message_size plain) x) e ∙ drop_at (sent_as plain m) rest (message_size plain) size,
    )

-- messages in a row are cut apart again
cut_back : (plain : Bool) (ms : List Message) (bytes : List ℕ) (at : ℕ) → drop at bytes ≡ all_sent plain ms → cut plain bytes at (length ms) ≡ map (sent_as plain) ms
cut_back plain [] bytes at e = refl
cut_back plain (m ∷ ms) bytes at e =
    let one = cut_one plain m (all_sent plain ms) bytes at e in
    ap₂ (λ (x : List ℕ) (xs : List (List ℕ)). x ∷ xs) one.0 (cut_back plain ms bytes (at + message_size plain) one.1)

-- ---- a message

-- to the charger's own address it is a write
own : (plain : Bool) (k word : ℕ) → asked false (sent_as plain (message_to 0x12 k word)) ≡ Write k word (not plain)
own true k word = (write_is 0x12 false (sent_as true (message_to 0x12 k word)) k word false).1 (refl, (_, _, omega arith, refl))
own false k word = (write_is 0x12 false (sent_as false (message_to 0x12 k word)) k word true).1 (refl, (_, _, omega arith, refl))

-- to the host's it is refused
other : (plain : Bool) (k word : ℕ) → asked false (sent_as plain (message_to 0x10 k word)) ≡ Refused 3
unfolding request_of
other true k word = refl
other false k word = refl

-- ---- a broadcast

-- the alarm that the charger hears, and the words
abbrev alarm_taken : Bool → Charger → ℕ → Charger
alarm_taken goes c word = cond goes (charger_written c 0x16 word) c

abbrev words_taken : Bool → Charger → ℕ → ℕ → Charger
words_taken goes c current voltage = cond goes (charger_written (charger_written c 0x14 current) 0x15 voltage) c

-- what a broadcast does to the charger
abbrev pub broadcast_taken : Charger → Pack → Charger
broadcast_taken c q = words_taken (charger_goes q) (alarm_taken (alarm_goes q && charger_alarm q) c (alarm_word q)) (charging_current q) q.settings.ChargingVoltage

module _ (plain : Bool) (reply : ℕ) (l : 3 ≤ reply) (word current voltage : ℕ) where
  -- delivered in order
  abbrev heard : Charger → List Message → Charger
  heard c ms = charger.run c (deliveries reply (map (sent_as plain) ms))

  -- to the host: nothing
  foreign_kept : (c : Charger) → (transact_of c false (sent_as plain (message_to 0x10 0x16 word)) reply).state ≡ c
  unfolding transact_of
  foreign_kept c =
      ap (λ (q : Request). charger_after c q (transact_answer c false (sent_as plain (message_to 0x10 0x16 word)) reply)) (other plain 0x16 word)

  -- to its own, for a command that it takes
  taken : (c : Charger) (k w : ℕ) → charger_sound c ≡ true → charger_kind k ≡ WriteOnly → (transact_of c false (sent_as plain (message_to 0x12 k w)) reply).state ≡ charger_written c k w
  taken c k w h e =
      ap (λ (t : Transacted Charger). t.state) (by-outcome c false (sent_as plain (message_to 0x12 k w)) reply (Write k w (not plain)) h l (own plain k w)) ∙ rw e

  abbrev alarms : Bool → Bool → List Message
  alarms a b = cond a (message_to 0x10 0x16 word ∷ cond b (message_to 0x12 0x16 word ∷ []) []) []

  abbrev words : Bool → List Message
  words d = cond d (message_to 0x12 0x14 current ∷ message_to 0x12 0x15 voltage ∷ []) []

  words-heard : (d : Bool) (c : Charger) → charger_sound c ≡ true → heard c (words d) ≡ words_taken d c current voltage
  unfolding charger_kind
  words-heard true c h =
      ap (λ (x : Charger). (transact_of x false (sent_as plain (message_to 0x12 0x15 voltage)) reply).state) (taken c 0x14 current h refl)
      ∙ taken (charger_written c 0x14 current) 0x15 voltage (written_sound c 0x14 current h) refl
  words-heard false c h = refl

  all-heard : (a b d : Bool) (c : Charger) → charger_sound c ≡ true → heard c (alarms a b ++ words d) ≡ words_taken d (alarm_taken (a && b) c word) current voltage
  unfolding charger_kind
  all-heard true true d c h =
      ap (λ (e : Charger). heard (transact_of e false (sent_as plain (message_to 0x12 0x16 word)) reply).state (words d)) (foreign_kept c)
      ∙ ap (λ (e : Charger). heard e (words d)) (taken c 0x16 word h refl)
      ∙ words-heard d (charger_written c 0x16 word) (written_sound c 0x16 word h)
  all-heard true false d c h = ap (λ (e : Charger). heard e (words d)) (foreign_kept c) ∙ words-heard d c h
  all-heard false b d c h = words-heard d c h

broadcast_heard : (reply : ℕ) (c : Charger) (q : Pack) → 3 ≤ reply → charger_sound c ≡ true
    → charger.run c (deliveries reply (cut q.settings.plain (broadcast_of q) 0 (length (messages_of q)))) ≡ broadcast_taken c q
unfolding alarms_of charger_words_of
broadcast_heard reply c q l h =
    ap (λ (ms : List (List ℕ)). charger.run c (deliveries reply ms)) (cut_back q.settings.plain (messages_of q) (broadcast_of q) 0 refl)
    ∙ all-heard q.settings.plain reply l (alarm_word q) (charging_current q) q.settings.ChargingVoltage (alarm_goes q) (charger_alarm q) (charger_goes q) c h

-- ---- the messages of a tick

-- at a served sample they are the broadcast's
pub messages_are : (s : State) (t : Tick) → accepted s (pack_sample t) ≡ true
    → messages_from s t ≡ cut s.pack.settings.plain (broadcast_of (moved_of s.pack t.pack)) 0 (length (messages_of (moved_of s.pack t.pack)))
messages_are s t =
    outcome
    (λ r. eqb r.answer 0 ≡ true
    → cut s.pack.settings.plain (cond (eqb r.answer 0) (broadcast_of (moved_of s.pack t.pack)) []) 0 r.messages
    ≡ cut s.pack.settings.plain (broadcast_of (moved_of s.pack t.pack)) 0 (length (messages_of (moved_of s.pack t.pack))))
    s t.pack t.room (λ z. absurd (true≢false (sym z))) (λ z. absurd (true≢false (sym z))) (λ h z. refl)

-- so the charger takes the broadcast
pub tick_heard : (s : State) (t : Tick) (c : Charger) → accepted s (pack_sample t) ≡ true → 3 ≤ t.reply → charger_sound c ≡ true
    → charger.run c (deliveries t.reply (messages_from s t)) ≡ broadcast_taken c (moved_of s.pack t.pack)
unfolding moved_of
tick_heard s t c a l h =
    ap (λ (ms : List (List ℕ)). charger.run c (deliveries t.reply ms)) (messages_are s t a) ∙ broadcast_heard t.reply c (moved_of s.pack t.pack) l h
