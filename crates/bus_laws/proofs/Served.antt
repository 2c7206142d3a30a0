-- What a served call is, and what reads and refused calls leave.
-- Assumes nothing.
use Prim.Native.Nat.{ℕ, ◌≤◌}
use mathlib.Core.Bool.{Bool, true}
use mathlib.Core.Logic.{inl, inr}
use mathlib.Core.Path.{◌≡◌, refl, sym, ap, ◌∙◌}
use Rattle.bus.proofs.Answers.{refused-outcome, refusal}
use Rattle.bus.specs.Transact.{pack_side, pack_after, asked, transact_answer, transact_of}
use Rattle.commands.specs.declared.Transacted.{Transacted}
use Rattle.bus_laws.specs.Calls.{Call, answer, visit, Reads, Writes}
use Rattle.bus_laws.specs.Promises.{RefusedCall, RefusedRoom, CodeLeft, IdleKeeps}
use Rattle.commands.specs.Answers.{read_answer, write_answer, served}
use Rattle.commands.specs.Commands.{kind_of}
use Rattle.commands_laws.proofs.Visits.{served_heard, read_by_row, write_by_row}
use Rattle.frame.proofs.Marks.{by_read}
use Rattle.frame.specs.declared.Request.TheVariants.{Write}
use Rattle.frame_laws.proofs.Requests.{write_is}
use Rattle.pack.specs.Sound.{sound_of}
use Rattle.pack.specs.declared.Pack.{Pack}
use Rattle.pack.specs.declared.State.{State}

-- a state that isn't sound and a room under 34 bytes are refused
pub past_two : (s : State) (c : Call) → served (answer s c) ≡ true → (sound_of s ≡ true) × (34 ≤ c.room)
unfolding transact_answer
past_two s c v = served_heard (visit s c) v

-- ---- the answer is that of the command's row

pub writes_asked : (c : Call) (command word : ℕ) (h : Writes c command word) → asked c.read c.bytes ≡ Write command word h.1.0
writes_asked c command word (r, (checked, b)) = (write_is 0x16 c.read c.bytes command word checked).1 (r, b)

pub read-answer : (s : State) (c : Call) (command : ℕ) → sound_of s ≡ true → 34 ≤ c.room → Reads c command
    → answer s c ≡ read_answer (pack_side s c.service c.factory) command (kind_of command)
unfolding transact_answer
read-answer s c command e h r = read_by_row (visit s c) command (e, h) r

pub write-answer : (s : State) (c : Call) (command word : ℕ) → sound_of s ≡ true → 34 ≤ c.room → Writes c command word → answer s c ≡ write_answer (kind_of command)
unfolding transact_answer
write-answer s c command word e h (r, (checked, w)) = write_by_row (visit s c) command word checked (e, h) (r, w)

-- ---- a refusal

pub refused : RefusedCall
refused s c v = refused-outcome s c.service c.factory c.read c.bytes c.room (answer s c) refl v

pub refused_room : RefusedRoom
refused_room s service factory read bytes room v = sym (refusal s service factory read bytes room _ refl v).1

pub code_left : CodeLeft
unfolding transact_of
code_left s c = refl

-- ---- a read or a refused call changes nothing but the error code

read_keeps : (p : Pack) (c : Call) (n : ℕ) → c.read ≡ true → pack_after p (asked c.read c.bytes) n ≡ p
read_keeps p c n h =
    ap (λ (b : Bool). pack_after p (asked b c.bytes) n) h ∙ by_read (λ q. pack_after p q n ≡ p) 0x16 c.bytes (λ m. refl) (λ command. refl)

pub idle_keeps : IdleKeeps
unfolding transact_of
idle_keeps s c (inl h) = read_keeps s.pack c (answer s c) h
idle_keeps s c (inr v) = ap (λ (r : Transacted State). r.state.pack) (refused s c v)
