use mathlib.Core.Bool.{true, false, cond}
use mathlib.Core.List.{[]}
use mathlib.Core.Path.{◌≡◌, ap, ◌∙◌, sym}
use lib.ListN.{length}
use lib.Seq.{length-sets}
use borrow.Author.Rules.{rules}
use borrow.Author.Tests.{not-true, not-false}
use native.Mathlib.Nat.{zero-add}
use native.Mathlib.Omega.{arith}
use Rattle.broadcasts.proofs.Sending.{in_a_row, no_alarm, alarms_are, room_is}
use Rattle.broadcasts.specs.Broadcasts.{alarm_goes, alarms_of}
use Rattle.frame.specs.Broadcasts.{message_to, sent_as, all_sent}
use Rattle.frame.proofs.Messages.{sent_size}
use Rattle.broadcasts.proofs.send_alarms.Goals as goal

pub returns-then-not-goes : goal.returns-then-not-goes
returns-then-not-goes c =
    let p = c.args.p in
    let h : alarm_goes p ≡ false = sym c.requires.2 ∙ c.if-not-goes.true in
    record { length = simp (no_alarm p h); memory = simp (no_alarm p h) }

pub put_message-next-requires : goal.put_message-next-requires
put_message-next-requires c =
    omega (arith, room_is c.args.p.settings.plain, c.requires.3)

pub put_if-requires : goal.put_if-requires
put_if-requires c =
    let plain = c.args.p.settings.plain in
    let host = message_to 0x10 0x16 c.alarm_word-word.result in
    let long = ap length c.put_message-next.ensures.memory ∙ length-sets c.args.room.now 0 (sent_as plain host) in
    omega (arith, long, c.put_message-next.ensures.result, sent_size plain host, room_is plain, c.requires.3)

pub returns : goal.returns
returns c =
    let sent = c.put_if.ensures in
    let charger = c.charger_alarm in
    let word = c.alarm_word-word in
    let p = c.args.p in
    let plain = p.settings.plain in
    let h : alarm_goes p ≡ true = sym c.requires.2 ∙ c.if-not-goes.false in
    let e = alarms_are p plain word.result charger.result h word.ensures charger.ensures in
    let both =
    in_a_row c.args.room.now 0 c.put_message-next.result (sent_as plain (message_to 0x10 0x16 word.result))
    (cond charger.result (sent_as plain (message_to 0x12 0x16 word.result)) [])
    (all_sent plain (alarms_of p)) c.put_message-next.ensures.memory c.put_message-next.ensures.result sent.memory sent.length e in
    record { length = both.0 ∙ zero-add _; memory = both.1 }
