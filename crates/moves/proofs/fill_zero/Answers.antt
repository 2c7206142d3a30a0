use mathlib.Core.Path.{◌≡◌, sym, ap, ◌∙◌}
use mathlib.Core.List.{List}
use Prim.Native.Nat.{ℕ, ◌-◌}
use native.Mathlib.Omega.{arith}
use lib.ListN.{length, take, drop, replicate, length-drop, length-replicate}
use lib.Seq.{length-take-le}
use Rattle.rooms.proofs.Rooms.{part_stored}
use Rattle.moves.proofs.fill_zero.Goals as goal

pub returns : goal.returns
returns c =
    let room = c.args.room.now in
    let n = c.args.to - c.args.from in
    let zeros : List ℕ = replicate n 0 in
    let size = length-replicate {A = ℕ} n 0 in
    let part : length (take n (drop c.args.from room)) ≡ n = length-take-le n (drop c.args.from room) (omega (arith, length-drop c.args.from room)) in
    part_stored room zeros _ c.args.from n (sym size) (c.fill.ensures.after (λ y e. e) ∙ ap (λ (k : ℕ). replicate k 0) part) (omega arith)
