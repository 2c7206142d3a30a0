use Rattle.std.proofs.Common.{◌≡◌, length, sym, ap, ◌∙◌, ap₂, zero-add, arith, rules}
use lib.Seq.{length-sets}
use Rattle.broadcasts.specs.Broadcasts.{alarms_of, charger_words_of, broadcast_of, least_room}
use Rattle.broadcasts.proofs.Sending.{in_a_row, alarms_small, at_most_room, both_sent, room_is}
use Rattle.clock.proofs.Served.{sendable, same_choice, assembled}
use Rattle.frame.specs.Broadcasts.{all_sent}
use Rattle.frame.proofs.Messages.{some_size}
use Rattle.pack.proofs.Soundness.{parts, pack_of_sound}
use Rattle.rooms.specs.Rooms.{placed}
use Rattle.rooms.proofs.Rooms.{front}
use Rattle.timers.specs.Countdown.{restarted_of}
use Rattle.clock.proofs.serve.Goals as goal

pub moved-p-requires : goal.moved-p-requires
moved-p-requires c = parts _ (pack_of_sound c.args.s c.requires.0)

pub alarm_goes-alarm-requires : goal.alarm_goes-alarm-requires
alarm_goes-alarm-requires c =
    let f = parts _ (pack_of_sound _ c.requires.0) in
    sendable c.args.s.pack c.moved-p.result c.args.sample f.tank f.recent c.moved-p.ensures

pub send_alarms-at-requires : goal.send_alarms-at-requires
send_alarms-at-requires c =
    let moved = c.moved-p in
    let f = parts _ (pack_of_sound _ c.requires.0) in
    let ready = sendable c.args.s.pack moved.result c.args.sample f.tank f.recent moved.ensures in
    let same = ap least_room (same_choice c.args.s.pack moved.result c.args.sample moved.ensures) in
    (ready.0, ready.1, c.alarm_goes-alarm.ensures, omega (arith, same, c.requires.1))

pub send_charger_words-length-requires : goal.send_charger_words-length-requires
send_charger_words-length-requires c =
    let q = c.moved-p.result in
    let plain = q.settings.plain in
    let room = c.args.room.now in
    let long : length c.send_alarms-at.new.room ≡ length room = ap length c.send_alarms-at.ensures.memory ∙ length-sets room 0 (all_sent plain (alarms_of q)) in
    let same = ap least_room (same_choice c.args.s.pack q c.args.sample c.moved-p.ensures) in
    (c.charger_goes-charger.ensures, omega (arith, long, alarms_small q plain, c.send_alarms-at.ensures.length, same, room_is plain, c.requires.1))

pub nonzero_div-result : goal.nonzero_div-result
nonzero_div-result c = omega (arith, c.message_size-size.ensures, some_size c.moved-p.result.settings.plain)

pub returns : goal.returns
returns c =
    let q = c.moved-p.result in
    let plain = q.settings.plain in
    let room = c.args.room.now in
    let both =
    in_a_row room 0 c.send_alarms-at.result (all_sent plain (alarms_of q)) (all_sent plain (charger_words_of q)) (broadcast_of q) c.send_alarms-at.ensures.memory
    (c.send_alarms-at.ensures.length ∙ sym (zero-add _)) c.send_charger_words-length.ensures.memory c.send_charger_words-length.ensures.length (both_sent q plain) in
    let t = c.restarted-timers.ensures ∙ ap₂ (restarted_of q.timers) c.alarm_goes-alarm.ensures c.charger_goes-charger.ensures in
    let same = ap least_room (same_choice c.args.s.pack q c.args.sample c.moved-p.ensures) in record {
      result = assembled c.args.s c.args.sample q c.send_charger_words-length.result c.message_size-size.result c.restarted-timers.result c.moved-p.ensures
          (both.0 ∙ zero-add _) c.message_size-size.ensures t;
      memory = both.1 ∙ front (broadcast_of q) room (omega (arith, at_most_room q, same, c.requires.1)) ∙ ap (λ p. placed (broadcast_of p) room) c.moved-p.ensures;
    }
