-- What `sent` says is what a sample's call puts at the front of the lent room; its messages.
-- Assumes nothing.
use Prim.Native.Nat.{ℕ, ◌*◌, ◌<◌}
use mathlib.Core.Bool.{Bool, true, false, cond, not}
use mathlib.Core.List.{List, [], ◌∷◌, ◌++◌}
use mathlib.Core.Path.{◌≡◌, refl, sym, ap, ◌∙◌, subst}
use native.Mathlib.Omega.{arith}
use lib.Dec.{eqb, ltb}
use lib.ListN.{length, get_or, take, drop}
use lib.Seq.{take_at}
use Rattle.alarms.specs.Alarms.{terminate_charge, charger_alarm, charging_current}
use Rattle.broadcasts.proofs.Sending.{four_at_most}
use Rattle.broadcasts.specs.Broadcasts.{alarm_goes, charger_goes, alarms_of, charger_words_of, messages_of, broadcast_of, least_room}
use Rattle.clock.specs.Broadcast.{sample_of, broadcast_room, served_sample, refused_sample}
use Rattle.clock.specs.Sample.{moved_of}
use Rattle.clock.proofs.Outcome.{outcome}
use Rattle.frame.specs.Broadcasts.{message_to, sent_as, message_size, all_sent}
use Rattle.frame.specs.declared.Message.{Message}
use Rattle.frame_laws.proofs.Broadcasts.{message-at, message_right, rows_tell}
use Rattle.frame_laws.specs.Broadcasts.{MessageFits, AllFit}
use Rattle.gauge_laws.proofs.Bits.{status_most}
use Rattle.gauge_laws.proofs.Range.{pick}
use Rattle.pec.specs.Messages.{Right}
use Rattle.frame.proofs.Messages.{sent_size}
use Rattle.rooms.specs.Rooms.{placed}
use Rattle.status.specs.Status.{alarm_word}
use Rattle.pack.specs.Sound.{sound_of}
use Rattle.pack.specs.declared.Pack.{Pack}
use Rattle.pack.specs.declared.Sample.{Sample}
use Rattle.pack.specs.declared.State.{State}
use Rattle.runs.specs.Choice.{EachRight, MessagesFit, BroadcastsTell}
use Rattle.runs.specs.Promises.{SentIsPlaced, AlarmIsSent}

by_tests : (s : State) (x : Sample) (room : List ℕ) (unsound small : Bool)
    → let bytes = broadcast_of (moved_of s.pack x) in
    let r = cond unsound (refused_sample 1 s) (cond small (refused_sample 2 s) (served_sample s x)) in
    (cond unsound room (cond small room (placed bytes room)) ≡ placed (cond (eqb r.answer 0) bytes []) room) × (r.length ≡ length (cond (eqb r.answer 0) bytes []))
by_tests s x room true small = (refl, refl)
by_tests s x room false true = (refl, refl)
by_tests s x room false false = (refl, refl)

pub sent_is_placed : SentIsPlaced
unfolding sample_of broadcast_room
sent_is_placed s x room = by_tests s x room (not (sound_of s)) (ltb (length room) (least_room s.pack.settings.plain))

first_message : (p : Pack) → alarm_goes p ≡ true → take (message_size p.settings.plain) (broadcast_of p) ≡ sent_as p.settings.plain (message_to 0x10 0x16 (alarm_word p))
unfolding alarms_of
first_message p g =
    let plain = p.settings.plain in
    let host = message_to 0x10 0x16 (alarm_word p) in
    simp g (take_at (sent_as plain host) _ (message_size plain) (sent_size plain host))

pub alarm_is_sent : AlarmIsSent
unfolding moved_of
alarm_is_sent s x n a g =
    ap (λ (b : Bool). take (message_size s.pack.settings.plain) (cond b (broadcast_of (moved_of s.pack x)) [])) a ∙ first_message (moved_of s.pack x) g

-- with PEC each message is right

a_right_one : (p : Pack) (k : ℕ) → p.settings.plain ≡ false → k < length (messages_of p) → Right (take 5 (drop (5 * k) (broadcast_of p)))
a_right_one p k e h =
    let none = message_to 0 0 0 in
    let at : take 5 (drop (5 * k) (broadcast_of p)) ≡ sent_as false (get_or (messages_of p) k none)
    = ap (λ (plain : Bool). take 5 (drop (5 * k) (all_sent plain (messages_of p)))) e ∙ message-at false (messages_of p) k none h in
    subst Right (sym at) (message_right (get_or (messages_of p) k none))

pub each_right : EachRight
unfolding moved_of
each_right s x n k e =
    outcome (λ r. k < r.messages → Right (take 5 (drop (5 * k) (cond (eqb r.answer 0) (broadcast_of (moved_of s.pack x)) [])))) s x n
    (λ h. absurd (omega (arith, h))) (λ h. absurd (omega (arith, h))) (λ sound h. a_right_one (moved_of s.pack x) k e h)

-- its fields hold what their types let them hold

few_fit : (a b : Bool) (m n : Message) → MessageFits m → MessageFits n → AllFit (cond a (m ∷ cond b (n ∷ []) []) [])
few_fit true true m n f g = (f, (g, tt))
few_fit true false m n f g = (f, tt)
few_fit false b m n f g = tt

both_fit : (ms ns : List Message) → AllFit ms → AllFit ns → AllFit (ms ++ ns)
both_fit [] ns f g = g
both_fit (m ∷ ms) ns f g = (f.0, both_fit ms ns f.1 g)

pub messages_fit : MessagesFit
unfolding alarms_of charger_words_of moved_of
messages_fit s x f =
    let q = moved_of s.pack x in
    let alarm : alarm_word q < 65536 = omega (arith, status_most q) in
    let current : charging_current q < 65536 = pick (terminate_charge q) 0 q.settings.ChargingCurrent (omega arith) f.settings.ChargingCurrent in
    both_fit (alarms_of q) (charger_words_of q)
    (few_fit (alarm_goes q) (charger_alarm q) (message_to 0x10 0x16 (alarm_word q)) (message_to 0x12 0x16 (alarm_word q))
    (record { address = omega arith; command = omega arith; word = alarm })
    (record { address = omega arith; command = omega arith; word = alarm }))
    (few_fit (charger_goes q) true (message_to 0x12 0x14 (charging_current q)) (message_to 0x12 0x15 q.settings.ChargingVoltage)
    (record { address = omega arith; command = omega arith; word = current })
    (record { address = omega arith; command = omega arith; word = f.settings.ChargingVoltage }))

pub broadcasts_tell : BroadcastsTell
broadcasts_tell p q = rows_tell p.settings.plain q.settings.plain (messages_of p) (messages_of q) (four_at_most p) (four_at_most q)
