-- What a transaction gives, by its answer and by its request.
-- Assumes nothing.
use Prim.Native.Nat.{ℕ}
use mathlib.Core.Bool.{Bool, false}
use mathlib.Core.List.{List, []}
use mathlib.Core.Path.{◌≡◌, ap, ap₂, sym, ◌∙◌}
use lib.ListN.{length}
use Rattle.commands.proofs.Answers as commands
use Rattle.commands.specs.Answers.{served, side_reply}
use Rattle.rooms.specs.Rooms.{placed}
use Rattle.thirteen.specs.Transact.{thirteen_side, outcome, asked, transact_answer, transact_reply, transact_of, reply_room}
use Rattle.thirteen_pack.specs.declared.ThirteenState.{ThirteenState}

-- with its answer and its reply known, what it gives and the room are
abbrev Gives : ThirteenState → Bool → List ℕ → List ℕ → ℕ → List ℕ → Type 0
Gives s read bytes room answer reply = (outcome s answer (length reply) ≡ transact_of s read bytes (length room)) × (placed reply room ≡ reply_room s read bytes room)

gives : (s : ThirteenState) (read : Bool) (bytes room : List ℕ) (answer : ℕ) (reply : List ℕ)
    → transact_answer s read bytes (length room) ≡ answer → transact_reply s read bytes (length room) ≡ reply → Gives s read bytes room answer reply
unfolding transact_of reply_room
gives s read bytes room answer reply e f = (
  sym (ap₂ (λ (n : ℕ) (x : List ℕ). outcome s n (length x)) e f),
  ap (λ (x : List ℕ). placed x room) (sym f),
)

-- a refusal has no reply bytes
pub refused_no_reply : (s : ThirteenState) (read : Bool) (bytes : List ℕ) (room n : ℕ) → transact_answer s read bytes room ≡ n → served n ≡ false
    → transact_reply s read bytes room ≡ []
unfolding transact_reply
refused_no_reply s read bytes room n e v =
    ap (λ (a : ℕ). side_reply (thirteen_side s) bytes (asked read bytes) a) e ∙ commands.refused_reply (thirteen_side s) bytes (asked read bytes) n v

pub refusal : (s : ThirteenState) (read : Bool) (bytes room : List ℕ) (n : ℕ) → transact_answer s read bytes (length room) ≡ n → served n ≡ false
    → Gives s read bytes room n []
refusal s read bytes room n e v = gives s read bytes room n [] e (refused_no_reply s read bytes (length room) n e v)
