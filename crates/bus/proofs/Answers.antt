-- What a transaction gives, by its answer and by its request.
-- Assumes nothing.
use Prim.Native.Nat.{ℕ, ◌≤◌}
use mathlib.Core.Bool.{Bool, true, false, cond}
use mathlib.Core.List.{List, []}
use mathlib.Core.Path.{◌≡◌, refl, ap, ap₂, sym, ◌∙◌}
use lib.ListN.{length}
use Rattle.bus.specs.Transact.{pack_side, pack_after, outcome, asked, request_given, transact_answer, transact_reply, transact_of, reply_room}
use Rattle.commands.proofs.Answers as commands
use Rattle.commands.specs.Answers.{request_answer, served, side_reply}
use Rattle.frame.specs.declared.Request.{Request}
use Rattle.frame.specs.declared.Request.TheVariants.{Refused, Read, Write}
use Rattle.pack.specs.Sound.{sound_of}
use Rattle.pack.specs.declared.Pack.{Pack}
use Rattle.pack.specs.declared.State.{State}
use Rattle.rooms.specs.Rooms.{placed}
use Rattle.written.specs.Written.{pack_written}

-- ---- the answer

module _ (s : State) (service factory : List ℕ) (read : Bool) (bytes : List ℕ) (room : ℕ) where
  pub unsound : sound_of s ≡ false → transact_answer s service factory read bytes room ≡ 1
  unfolding transact_answer
  unsound = commands.unsound (pack_side s service factory) (asked read bytes) room

-- ---- a refusal

refused_pack : (p : Pack) (request : Request) (answer : ℕ) → served answer ≡ false → pack_after p request answer ≡ p
refused_pack p (Refused n) answer e = refl
refused_pack p (Read command) answer e = refl
refused_pack p (Write command word checked) answer e = ap (λ (b : Bool). cond b (pack_written p command word) p) e

module _ (s : State) (service factory : List ℕ) (read : Bool) (bytes : List ℕ) (room n : ℕ) (e : transact_answer s service factory read bytes room ≡ n) (v : served n ≡ false) where
  pub refused_no_reply : transact_reply s service factory read bytes room ≡ []
  unfolding transact_reply
  refused_no_reply =
      ap (λ (a : ℕ). side_reply (pack_side s service factory) bytes (asked read bytes) a) e
      ∙ commands.refused_reply (pack_side s service factory) bytes (asked read bytes) n v

  pub refused-outcome : transact_of s service factory read bytes room ≡ outcome s n s.pack 0
  unfolding transact_of
  refused-outcome =
      ap (λ (a : ℕ). request_given s service factory bytes (asked read bytes) a) e
      ∙ ap₂ (λ (p : Pack) (x : List ℕ). outcome s n p (length x)) (refused_pack s.pack (asked read bytes) n v)
      (commands.refused_reply (pack_side s service factory) bytes (asked read bytes) n v)

-- it changes nothing but the error code, and the room stays
pub refusal : (s : State) (service factory : List ℕ) (read : Bool) (bytes room : List ℕ) (n : ℕ) → transact_answer s service factory read bytes (length room) ≡ n → served n ≡ false
    → (outcome s n s.pack 0 ≡ transact_of s service factory read bytes (length room)) × (room ≡ reply_room s service factory read bytes room)
unfolding reply_room
refusal s service factory read bytes room n e v = (
  sym (refused-outcome s service factory read bytes (length room) n e v),
  ap (λ (x : List ℕ). placed x room) (sym (refused_no_reply s service factory read bytes (length room) n e v)),
)

-- ---- past answer 2, by the request

module _ (s : State) (service factory : List ℕ) (read : Bool) (bytes : List ℕ) (room : ℕ) (request : Request)
    (sound : sound_of s ≡ true) (fits : 34 ≤ room) (e : asked read bytes ≡ request) where
  abbrev pub number : ℕ
  number = request_answer (pack_side s service factory) request

  by_answer : transact_answer s service factory read bytes room ≡ number
  unfolding transact_answer
  by_answer =
      commands.past_two (pack_side s service factory) (asked read bytes) room sound fits
      ∙ ap (λ (q : Request). request_answer (pack_side s service factory) q) e

  pub by-outcome : transact_of s service factory read bytes room ≡ request_given s service factory bytes request number
  unfolding transact_of
  by-outcome = ap₂ (λ (a : ℕ) (q : Request). request_given s service factory bytes q a) by_answer e
