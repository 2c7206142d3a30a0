use native.Mathlib.Omega.{arith}
use Rattle.key_writer.proofs.Writing.{key_laid, key-wrote, key_not}
use Rattle.key_writer.proofs.write_key.Goals as goal

pub returns-then-maker-gt32 : goal.returns-then-maker-gt32
returns-then-maker-gt32 c =
    let unfit = key_not c.args.room.now c.args.maker.now c.args.device.now c.args.date c.args.serial (λ hm hd. omega (arith, c.then-maker-gt32.either)) in
    record { value = unfit.0; room_after = unfit.1 }

pub returns : goal.returns
returns c =
    let a = c.args in
    let m = c.put_name-a.ensures in
    let d = c.put_name-b.ensures in
    let p = key-wrote a.room.now a.maker.now a.device.now a.date a.serial (omega arith) (omega arith) (omega arith) (omega (arith, m.value, d.value))
    (key_laid a.room.now a.maker.now a.device.now a.date a.serial m.value m.room_after d.value d.room_after c.put_word.ensures c.put_word-2.ensures) in
    record { value = p.0; room_after = p.1 }
