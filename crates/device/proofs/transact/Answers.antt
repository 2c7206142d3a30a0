-- `device::transact` meets its contract: each return by the answer or the request that led there.
-- Assumes nothing.
use Prim.Native.Nat.{ℕ}
use mathlib.Core.Path.{refl, sym, ap, ◌∙◌}
use native.Mathlib.Omega.{arith}
use lib.ListN.{length}
use Rattle.commands.proofs.Answers.{unsound, small-room}
use Rattle.device.proofs.Gives.{refusal, by_request}
use Rattle.std.specs.Prelude.{None}
use Rattle.device.specs.Device.{asked}
use Rattle.device.specs.declared.Replied.{Replied}
use Rattle.frame.specs.Transactions.{request_of}
use Rattle.device.proofs.transact.Goals as goal

pub returns-then-not-is_sound : goal.returns-then-not-is_sound
returns-then-not-is_sound g c =
    let a = c.args in
    let d = g.D.Device.side a.device.now in
    let e = refusal d a.read a.bytes.now a.room.now 1 (unsound d (asked d a.read a.bytes.now) (length a.room.now) (sym c.is_sound.ensures ∙ c.if-not-is_sound.true)) refl in
    record { result = c.refused.ensures ∙ e.0; memory = e.1 }

pub returns-then-room-least : goal.returns-then-room-least
returns-then-room-least g c =
    let a = c.args in
    let d = g.D.Device.side a.device.now in
    let sound = sym c.is_sound.ensures ∙ c.if-not-is_sound.false in
    let e = refusal d a.read a.bytes.now a.room.now 2 (small-room d (asked d a.read a.bytes.now) (length a.room.now) sound (omega (arith, c.if-room-least.true, c.least.ensures.is))) refl in
    record { result = c.refused-then-room-least.ensures ∙ e.0; memory = e.1 }

pub returns-in-Refused : goal.returns-in-Refused
returns-in-Refused g c =
    let a = c.args in
    let d = g.D.Device.side a.device.now in
    let sound = sym c.is_sound.ensures ∙ c.if-not-is_sound.false in
    let request = ap (λ (n : ℕ). request_of n a.read a.bytes.now) (sym c.address.ensures.is) ∙ (sym c.recognise.ensures ∙ c.in-Refused.is) in
    let e = by_request d a.read a.bytes.now a.room.now _ sound (omega (arith, c.if-room-least.false, c.least.ensures.is)) request in
    record { result = c.refused-in-Refused.ensures ∙ e.0; memory = e.1 }

pub returns-in-Read : goal.returns-in-Read
returns-in-Read g c =
    let a = c.args in
    let d = g.D.Device.side a.device.now in
    let sound = sym c.is_sound.ensures ∙ c.if-not-is_sound.false in
    let request = ap (λ (n : ℕ). request_of n a.read a.bytes.now) (sym c.address.ensures.is) ∙ (sym c.recognise.ensures ∙ c.in-Read.is) in
    let e = by_request d a.read a.bytes.now a.room.now _ sound (omega (arith, c.if-room-least.false, c.least.ensures.is)) request in
    let reply = c.read-reply.ensures in
    record { result = ap (λ (r : Replied). record { answer = r.answer; length = r.length; write = None }) reply.result ∙ e.0; memory = reply.memory ∙ e.1 }

pub returns-in-Write : goal.returns-in-Write
returns-in-Write g c =
    let a = c.args in
    let d = g.D.Device.side a.device.now in
    let sound = sym c.is_sound.ensures ∙ c.if-not-is_sound.false in
    let request = ap (λ (n : ℕ). request_of n a.read a.bytes.now) (sym c.address.ensures.is) ∙ (sym c.recognise.ensures ∙ c.in-Write.is) in
    let e = by_request d a.read a.bytes.now a.room.now _ sound (omega (arith, c.if-room-least.false, c.least.ensures.is)) request in
    record { result = c.write.ensures ∙ e.0; memory = e.1 }
