use Rattle.std.proofs.Common.{◌≡◌, true, false, ltb, length, sym, ap, ◌∙◌, arith, rules, le-ltb, lt-ltb}
use borrow.Author.Tests.{not-true, not-false}
use Rattle.clock.specs.Broadcast.{sample_of, broadcast_room}
use Rattle.pack.specs.Sound.{sound_of}
use Rattle.clock.proofs.sample.Goals as goal

pub returns-then-not-sound : goal.returns-then-not-sound
unfolding sample_of broadcast_room
returns-then-not-sound c =
    let e : sound_of c.args.s ≡ false = sym c.sound.ensures ∙ c.if-not-sound.true in
    record { result = simp e; memory = simp e }

pub returns-then-room-least_room : goal.returns-then-room-least_room
unfolding sample_of broadcast_room
returns-then-room-least_room c =
    let e : sound_of c.args.s ≡ true = sym c.sound.ensures ∙ c.if-not-sound.false in
    let l = ap (ltb (length c.args.room.now)) (sym c.least_room.ensures) ∙ lt-ltb _ _ c.if-room-least_room.true in
    record { result = simp (e, l); memory = simp (e, l) }

pub serve-requires : goal.serve-requires
serve-requires c = (
  sym c.sound.ensures ∙ c.if-not-sound.false,
  omega (arith, c.if-room-least_room.false, c.least_room.ensures),
)

pub returns : goal.returns
unfolding sample_of broadcast_room
returns c =
    let e : sound_of c.args.s ≡ true = sym c.sound.ensures ∙ c.if-not-sound.false in
    let l = ap (ltb (length c.args.room.now)) (sym c.least_room.ensures) ∙ le-ltb _ _ c.if-room-least_room.false in
    record { result = simp (e, l) c.serve.ensures.result; memory = simp (e, l) c.serve.ensures.memory }
