-- What a transaction gives, by its answer and by its request.
-- Assumes nothing.
use Prim.Native.Nat.{ℕ, ◌≤◌}
use mathlib.Core.Bool.{Bool, true, false, cond}
use mathlib.Core.List.{List, []}
use mathlib.Core.Path.{◌≡◌, refl, ap, ap₂, sym, ◌∙◌}
use lib.ListN.{length}
use Rattle.charger_state.specs.Charger.{sound_of}
use Rattle.charger.specs.Transact.{charger_side, charger_after, outcome, asked, request_given, transact_answer, transact_reply, transact_of, reply_room}
use Rattle.charger_written.specs.Written.{charger_written}
use Rattle.charger_state.specs.declared.Charger.{Charger}
use Rattle.commands.proofs.Answers as commands
use Rattle.commands.specs.Answers.{request_answer, served, side_reply}
use Rattle.frame.proofs.Marks.{by_read}
use Rattle.frame.specs.declared.Request.{Request}
use Rattle.frame.specs.declared.Request.TheVariants.{Refused, Read, Write}
use Rattle.rooms.specs.Rooms.{placed}

-- ---- a refusal

refused_state : (s : Charger) (request : Request) (answer : ℕ) → served answer ≡ false → charger_after s request answer ≡ s
refused_state s (Refused n) answer e = refl
refused_state s (Read command) answer e = refl
refused_state s (Write command word checked) answer e = ap (λ (b : Bool). cond b (charger_written s command word) s) e

-- a request that comes with the mark of a read is no write
pub read_stays : (s : Charger) (bytes : List ℕ) (answer : ℕ) → charger_after s (asked true bytes) answer ≡ s
read_stays s bytes answer = by_read (λ q. charger_after s q answer ≡ s) 0x12 bytes (λ n. refl) (λ command. refl)

module _ (s : Charger) (read : Bool) (bytes : List ℕ) (room n : ℕ) (e : transact_answer s read bytes room ≡ n) (v : served n ≡ false) where
  pub refused_no_reply : transact_reply s read bytes room ≡ []
  unfolding transact_reply
  refused_no_reply =
      ap (λ (a : ℕ). side_reply (charger_side s) bytes (asked read bytes) a) e ∙ commands.refused_reply (charger_side s) bytes (asked read bytes) n v

  pub refused-outcome : transact_of s read bytes room ≡ outcome n s 0
  unfolding transact_of
  refused-outcome =
      ap (λ (a : ℕ). request_given s bytes (asked read bytes) a) e
      ∙ ap₂ (λ (p : Charger) (x : List ℕ). outcome n p (length x)) (refused_state s (asked read bytes) n v)
      (commands.refused_reply (charger_side s) bytes (asked read bytes) n v)

-- it changes nothing, and the room stays
pub refusal : (s : Charger) (read : Bool) (bytes room : List ℕ) (n : ℕ) → transact_answer s read bytes (length room) ≡ n → served n ≡ false
    → (outcome n s 0 ≡ transact_of s read bytes (length room)) × (room ≡ reply_room s read bytes room)
unfolding reply_room
refusal s read bytes room n e v = (
  sym (refused-outcome s read bytes (length room) n e v),
  ap (λ (x : List ℕ). placed x room) (sym (refused_no_reply s read bytes (length room) n e v)),
)

-- ---- past answer 2, by the request

module _ (s : Charger) (read : Bool) (bytes : List ℕ) (room : ℕ) (request : Request)
    (sound : sound_of s ≡ true) (fits : 3 ≤ room) (e : asked read bytes ≡ request) where
  abbrev number : ℕ
  number = request_answer (charger_side s) request

  by_answer : transact_answer s read bytes room ≡ number
  unfolding transact_answer
  by_answer =
      commands.past_two (charger_side s) (asked read bytes) room sound fits ∙ ap (λ (q : Request). request_answer (charger_side s) q) e

  pub by-outcome : transact_of s read bytes room ≡ request_given s bytes request number
  unfolding transact_of
  by-outcome = ap₂ (λ (a : ℕ) (q : Request). request_given s bytes q a) by_answer e
