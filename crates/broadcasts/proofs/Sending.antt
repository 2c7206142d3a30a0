-- What goes and what doesn't, by the tests; how many bytes that is.
-- Assumes nothing.
use Prim.Native.Nat.{ℕ, ◌+◌, ◌*◌, ◌/◌, ◌≤◌}
use mathlib.Core.Bool.{Bool, true, false, cond}
use mathlib.Core.List.{List, [], ◌∷◌, ◌++◌}
use mathlib.Core.Path.{◌≡◌, refl, ap, ◌∙◌}
use native.Mathlib.Omega.{arith}
use lib.ListN.{length, length-append}
use lib.Seq.{sets}
use Rattle.broadcasts.specs.Broadcasts.{alarm_goes, charger_goes, alarms_of, charger_words_of, broadcast_of, messages_of, least_room}
use Rattle.frame.specs.Broadcasts.{message_to, sent_as, message_size, all_sent}
use Rattle.frame.specs.declared.Message.{Message}
use Rattle.frame.proofs.Messages.{all_size, all_append, all_two}
use Rattle.alarms.specs.Alarms.{charger_alarm, charging_current}
use Rattle.status.specs.Status.{alarm_word}
use Rattle.pack.specs.declared.Pack.{Pack}
use Rattle.rooms.proofs.Rooms.{then}

-- two writings in a row: where the second ends, and what the room holds
pub in_a_row : (room : List ℕ) (at next : ℕ) (first second all : List ℕ) {after left : List ℕ} {ends : ℕ}
    → after ≡ sets room at first → next ≡ at + length first → left ≡ sets after next second → ends ≡ next + length second → first ++ second ≡ all
    → (ends ≡ at + length all) × (left ≡ sets room at all)
in_a_row room at next first second all a n l s e =
    (omega (arith, length-append first second, ap length e), l ∙ then room at next first second a n ∙ ap (sets room at) e)

pub no_alarm : (p : Pack) → alarm_goes p ≡ false → alarms_of p ≡ []
unfolding alarms_of
no_alarm p h = simp h

-- a message behind another, where it goes
then_if : (plain goes : Bool) (m n : Message) → sent_as plain m ++ cond goes (sent_as plain n) [] ≡ all_sent plain (m ∷ cond goes (n ∷ []) [])
then_if plain true m n = all_two plain m n
then_if plain false m n = refl

pub alarms_are : (p : Pack) (plain : Bool) (word : ℕ) (charger : Bool) → alarm_goes p ≡ true → word ≡ alarm_word p → charger ≡ charger_alarm p
    → sent_as plain (message_to 0x10 0x16 word) ++ cond charger (sent_as plain (message_to 0x12 0x16 word)) [] ≡ all_sent plain (alarms_of p)
unfolding alarms_of
alarms_are p plain word charger h e f = then_if plain charger (message_to 0x10 0x16 word) (message_to 0x12 0x16 word) ∙ simp (h, e, f)

pub no_words : (p : Pack) → charger_goes p ≡ false → charger_words_of p ≡ []
unfolding charger_words_of
no_words p h = simp h

pub words_are : (p : Pack) (plain : Bool) (current : ℕ) → charger_goes p ≡ true → current ≡ charging_current p
    → sent_as plain (message_to 0x12 0x14 current) ++ sent_as plain (message_to 0x12 0x15 p.settings.ChargingVoltage) ≡ all_sent plain (charger_words_of p)
unfolding charger_words_of
words_are p plain current h e = all_two plain (message_to 0x12 0x14 current) (message_to 0x12 0x15 p.settings.ChargingVoltage) ∙ simp (h, e)

-- two messages at the most, where the first goes and where the second does
few : (a b : Bool) (m n : Message) → length (cond a (m ∷ cond b (n ∷ []) []) []) ≤ 2
few true true m n = omega arith
few true false m n = omega arith
few false b m n = omega arith

-- as alarms
two_alarms : (p : Pack) → length (alarms_of p) ≤ 2
unfolding alarms_of
two_alarms p = few (alarm_goes p) (charger_alarm p) (message_to 0x10 0x16 (alarm_word p)) (message_to 0x12 0x16 (alarm_word p))

-- and as charger words
two_words : (p : Pack) → length (charger_words_of p) ≤ 2
unfolding charger_words_of
two_words p = few (charger_goes p) true (message_to 0x12 0x14 (charging_current p)) (message_to 0x12 0x15 p.settings.ChargingVoltage)

-- so four in all
pub four_at_most : (p : Pack) → length (messages_of p) ≤ 4
four_at_most p = omega (arith, length-append (alarms_of p) (charger_words_of p), two_alarms p, two_words p)

-- the bytes of both
pub both_sent : (p : Pack) (plain : Bool) → all_sent plain (alarms_of p) ++ all_sent plain (charger_words_of p) ≡ all_sent plain (messages_of p)
both_sent p plain = all_append plain (alarms_of p) (charger_words_of p)

-- each message has its size
pub size_each : (p : Pack) → length (broadcast_of p) ≡ message_size p.settings.plain * length (messages_of p)
size_each p = all_size p.settings.plain (messages_of p)

-- the bytes of a few messages are at most those of a few more
within : (plain : Bool) (n most : ℕ) → n ≤ most → message_size plain * n ≤ message_size plain * most
within true n most h = omega (arith, h)
within false n most h = omega (arith, h)

-- the room holds four messages
pub room_is : (plain : Bool) → least_room plain ≡ 4 * message_size plain
room_is true = refl
room_is false = refl

-- two messages' bytes at the most go as alarms
pub alarms_small : (p : Pack) (plain : Bool) → length (all_sent plain (alarms_of p)) ≤ 2 * message_size plain
alarms_small p plain = omega (arith, all_size plain (alarms_of p), within plain (length (alarms_of p)) 2 (two_alarms p))

-- and in all at most what the room holds
pub at_most_room : (p : Pack) → length (broadcast_of p) ≤ least_room p.settings.plain
at_most_room p =
    let plain = p.settings.plain in
    omega (arith, room_is plain, size_each p, within plain (length (messages_of p)) 4 (four_at_most p))

-- which is never more than 20
pub at_most_20 : (p : Pack) → length (broadcast_of p) ≤ 20
at_most_20 p = omega (arith, at_most_room p, most p.settings.plain)
  where
    most : (plain : Bool) → least_room plain ≤ 20
    most true = omega arith
    most false = omega arith

shared : (plain : Bool) (n bytes : ℕ) → bytes ≡ message_size plain * n → bytes / message_size plain ≡ n
shared true n bytes e = omega (arith, e)
shared false n bytes e = omega (arith, e)

-- the messages, told from the bytes
pub counted : (p : Pack) → length (broadcast_of p) / message_size p.settings.plain ≡ length (messages_of p)
counted p = shared p.settings.plain (length (messages_of p)) (length (broadcast_of p)) (size_each p)
