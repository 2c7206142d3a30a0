use mathlib.Core.Bool.{true, false}
use mathlib.Core.Path.{◌≡◌, ap, ◌∙◌, sym}
use lib.ListN.{length}
use lib.Seq.{length-sets}
use borrow.Author.Rules.{rules}
use borrow.Author.Tests.{not-true, not-false}
use native.Mathlib.Omega.{arith}
use Rattle.broadcasts.proofs.Sending.{in_a_row, no_words, words_are}
use Rattle.broadcasts.specs.Broadcasts.{charger_goes, charger_words_of}
use Rattle.frame.specs.Broadcasts.{message_to, sent_as, all_sent}
use Rattle.frame.proofs.Messages.{sent_size}
use Rattle.broadcasts.proofs.send_charger_words.Goals as goal

pub returns-then-not-goes : goal.returns-then-not-goes
returns-then-not-goes c =
    let p = c.args.p in
    let h : charger_goes p ≡ false = sym c.requires.0 ∙ c.if-not-goes.true in
    record { length = simp (no_words p h) (omega arith); memory = simp (no_words p h) }

pub put_message-requires : goal.put_message-requires
put_message-requires c =
    let plain = c.args.p.settings.plain in
    let current = message_to 0x12 0x14 c.charging_current.result in
    let long = ap length c.put_message-next.ensures.memory ∙ length-sets c.args.room.now c.args.at (sent_as plain current) in
    omega (arith, long, c.put_message-next.ensures.result, sent_size plain current, c.requires.1)

pub returns : goal.returns
returns c =
    let sent = c.put_message.ensures in
    let current = c.charging_current in
    let p = c.args.p in
    let plain = p.settings.plain in
    let h : charger_goes p ≡ true = sym c.requires.0 ∙ c.if-not-goes.false in
    let e = words_are p plain current.result h current.ensures in
    let it = in_a_row c.args.room.now c.args.at c.put_message-next.result (sent_as plain (message_to 0x12 0x14 current.result))
    (sent_as plain (message_to 0x12 0x15 p.settings.ChargingVoltage))
    (all_sent plain (charger_words_of p)) c.put_message-next.ensures.memory c.put_message-next.ensures.result sent.memory sent.result e in
    record { length = it.0; memory = it.1 }
