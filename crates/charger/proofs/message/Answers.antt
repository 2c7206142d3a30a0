-- `charger::message` meets its contract: a whole message starts at the place, or none does.
-- Assumes nothing.
use Prim.Native.Nat.{ℕ, ◌+◌, ◌-◌, ◌≤◌, ◌<◌}
use mathlib.Core.Bool.{Bool, true, false}
use mathlib.Core.List.{List, []}
use mathlib.Core.Path.{◌≡◌, ap, ◌∙◌}
use native.Mathlib.Omega.{arith}
use borrow.Author.Tests.{le-leb, lt-leb}
use lib.ListN.{length, take, drop}
use Rattle.charger.specs.Delivered.{is_message, message_at, message_place}
use Rattle.frame.specs.Broadcasts.{message_size}
use Rattle.rooms.specs.Rooms.{further}
use Rattle.charger.proofs.message.Goals as goal

module _ (plain : Bool) (bytes : List ℕ) (at : ℕ) (first : ℕ × ℕ) {size : ℕ} (is : size ≡ message_size plain) where
  none : length bytes < at + size → ([] ≡ message_at plain bytes at) × (further 0 first ≡ message_place plain bytes at first)
  none h =
      let e : is_message plain bytes at ≡ false = lt-leb (at + message_size plain) (length bytes) (omega (arith, is, h)) in
      (simp e, simp e)

  whole : at + size ≤ length bytes → (take (at + size - at) (drop at bytes) ≡ message_at plain bytes at) × (further at first ≡ message_place plain bytes at first)
  whole h =
      let e : is_message plain bytes at ≡ true = le-leb (at + message_size plain) (length bytes) (omega (arith, is, h)) in
      let n : at + size - at ≡ message_size plain = omega (arith, is) in
      (ap (λ (k : ℕ). take k (drop at bytes)) n ∙ simp e, simp e)

pub returns-then-n-size : goal.returns-then-n-size
returns-then-n-size c =
    let a = c.args in
    let it = none a.plain a.broadcast.now a.at a.broadcast.ref_ptr c.message_size-size.ensures (omega (arith, c.if-n-size.true)) in
    record { result_value = it.0; ref_ptr_value = it.1 }

pub returns-then-n-size-2 : goal.returns-then-n-size-2
returns-then-n-size-2 c =
    let a = c.args in
    let it = none a.plain a.broadcast.now a.at a.broadcast.ref_ptr c.message_size-size.ensures (omega (arith, c.if-n-size-2.true, c.if-n-size.false)) in
    record { result_value = it.0; ref_ptr_value = it.1 }

pub returns : goal.returns
returns c =
    let a = c.args in
    let it = whole a.plain a.broadcast.now a.at a.broadcast.ref_ptr c.message_size-size.ensures (omega (arith, c.if-n-size-2.false, c.if-n-size.false)) in
    record { result_value = it.0; ref_ptr_value = it.1 }
