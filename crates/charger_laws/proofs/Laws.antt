-- Soundness; refusals and reads; each command's row; other addresses; an altered write.
-- Assumes nothing.
use Prim.Native.Nat.{ℕ, ◌≤◌}
use mathlib.Core.Bool.{Bool, true, false, cond, not}
use mathlib.Core.List.{List, [], ◌∷◌}
use mathlib.Core.Logic.{◌⊎◌, inl, inr}
use mathlib.Core.Path.{◌≡◌, refl, sym, ap, ◌∙◌, subst}
use native.Mathlib.Omega.{arith}
use borrow.Author.Tests.{le-leb}
use lib.Dec.{ltb}
use lib.ListN.{length}
use Rattle.charger.proofs.Answers.{read_stays, refused-outcome, refusal}
use Rattle.charger_state.specs.Charger.{sound_of, sampled_of, sample_of}
use Rattle.charger.specs.Commands.{is_shown, is_taken, charger_kind}
use Rattle.charger.specs.Transact.{charger_side, charger_after, asked, transact_answer, transact_of}
use Rattle.charger_written.specs.Written.{charger_written}
use Rattle.charger_state.specs.declared.Charger.{Charger}
use Rattle.commands.specs.declared.Transacted.{Transacted}
use Rattle.charger_laws.proofs.Cases.{call_cases, write_cases, sample_cases}
use Rattle.charger_laws.specs.Events.{Call, result, answer, visit, Event, sample, call, step, run}
use Rattle.charger_laws.specs.Promises.{SetUpSound, SoundStays, ReadRow, WriteRow, NeverComes, OtherAddresses, RefusedKeeps, RefusedRoom, RefusedSample, ReadKeeps, IdleKeeps, AlteredKeeps}
use Rattle.commands.specs.Answers.{read_answer, write_answer, request_answer, side_answer}
use Rattle.commands.specs.declared.Kind.{Kind}
use Rattle.commands_laws.proofs.Visits.{read_in_rows, write_in_rows, other_address}
use Rattle.frame.specs.Transactions.{request_of}
use Rattle.frame.specs.declared.Request.{Request}
use Rattle.frame.specs.declared.Request.TheVariants.{Refused, Read, Write}
use Rattle.frame_laws.proofs.Requests.{altered, refused_number}
use Rattle.pack.specs.declared.Sample.{Sample}
use Rattle.rooms.proofs.Choice.{chosen}

-- ---- soundness

pub set_up_sound : SetUpSound
set_up_sound first = refl

pub written_sound : (s : Charger) (command word : ℕ) → sound_of s ≡ true → sound_of (charger_written s command word) ≡ true
written_sound s command word h = write_cases (λ t. sound_of t ≡ true) s command word h h (λ e. refl) (λ e. refl) h h

sampled_sound : (s : Charger) (x : Sample) → sound_of (sampled_of s x) ≡ true
unfolding sampled_of
sampled_sound s x = le-leb (sampled_of s x).count 175000 (omega arith)

pub step_sound : (s : Charger) (e : Event) → sound_of s ≡ true → sound_of (step s e) ≡ true
step_sound s (sample x) h = sample_cases (λ r. sound_of r.state ≡ true) s x (λ u. h) (λ v. sampled_sound s x)
step_sound s (call c) h = call_cases (λ t. sound_of t ≡ true) s c h (λ command word checked e v. written_sound s command word h)

pub sound_stays : SoundStays
sound_stays s [] h = h
sound_stays s (e ∷ es) h = sound_stays (step s e) es (step_sound s e h)

-- ---- rows

pub read_row : ReadRow
unfolding transact_answer charger_kind
read_row s c command l sound room r = read_in_rows (visit s c) command _ refl l (sound, room) r

pub write_row : WriteRow
unfolding transact_answer charger_kind
write_row s c command word l sound room (r, (checked, w)) = write_in_rows (visit s c) command word checked _ refl l (sound, room) (r, w)

-- ---- which answers come

abbrev Few : ℕ → Type 0
Few n = (n ≤ 8) × (n ≡ 7 → ⊥)

six : Few 6
six = (omega arith, λ e. omega (arith, e))

eight : Few 8
eight = (omega arith, λ e. omega (arith, e))

none : Few 0
none = (omega arith, λ e. omega (arith, e))

few_read : (s : Charger) (command : ℕ) → Few (read_answer (charger_side s) command (charger_kind command))
unfolding charger_kind
few_read s command =
    chosen (λ (k : Kind). Few (read_answer (charger_side s) command k)) (is_shown command) (λ e. none)
    (λ e. chosen (λ (k : Kind). Few (read_answer (charger_side s) command k)) (is_taken command) (λ f. eight) (λ f. six))

few_write : (command : ℕ) → Few (write_answer (charger_kind command))
unfolding charger_kind
few_write command =
    chosen (λ (k : Kind). Few (write_answer k)) (is_shown command) (λ e. eight)
    (λ e. chosen (λ (k : Kind). Few (write_answer k)) (is_taken command) (λ f. none) (λ f. six))

few_refused : (address : ℕ) (read : Bool) (bytes : List ℕ) (n : ℕ) → request_of address read bytes ≡ Refused n → Few n
few_refused address read bytes n e = let h = refused_number address read bytes n e in (omega (arith, h.1), λ z. omega (arith, h.1, z))

pub never_comes : NeverComes
unfolding transact_answer side_answer
never_comes s c =
    chosen Few (not (sound_of s)) (λ e. (omega arith, λ z. omega (arith, z)))
    (λ e. chosen Few (ltb c.room 3) (λ f. (omega arith, λ z. omega (arith, z))) (λ f. go (asked c.read c.bytes) refl))
  where
    go : (q : Request) → asked c.read c.bytes ≡ q → Few (request_answer (charger_side s) q)
    go (Refused n) e = few_refused 0x12 c.read c.bytes n e
    go (Read command) e = few_read s command
    go (Write command word checked) e = few_write command

pub other_addresses : OtherAddresses
unfolding transact_answer
other_addresses s c address rest sound room b n = other_address (visit s c) address rest (sound, room) b n

-- ---- what changes nothing

pub refused_keeps : RefusedKeeps
refused_keeps s c v = refused-outcome s c.read c.bytes c.room (answer s c) refl v

pub refused_room : RefusedRoom
refused_room s read bytes room v = sym (refusal s read bytes room (transact_answer s read bytes (length room)) refl v).1

pub refused-sample : RefusedSample
refused-sample s x = sample_cases (λ r. (r.answer ≡ 0 → ⊥) → r.state ≡ s) s x (λ u n. refl) (λ v n. absurd (n refl))

pub read_keeps : ReadKeeps
unfolding transact_of
read_keeps s c r = ap (λ (b : Bool). charger_after s (asked b c.bytes) (answer s c)) r ∙ read_stays s c.bytes (answer s c)

pub idle_keeps : IdleKeeps
idle_keeps s c (inl h) = read_keeps s c h
idle_keeps s c (inr v) = ap (λ (t : Transacted Charger). t.state) (refused_keeps s c v)

-- ---- a right five-byte write altered in one to three bits

pub altered_keeps : AlteredKeeps
unfolding transact_of
altered_keeps s sent heard room p r l n m = go (altered 0x12 sent heard p r l n m)
  where
    go : (asked false heard ≡ Refused 3) ⊎ (asked false heard ≡ Refused 5) → charger_after s (asked false heard) (transact_answer s false heard room) ≡ s
    go (inl e) = ap (λ (q : Request). charger_after s q (transact_answer s false heard room)) e
    go (inr e) = ap (λ (q : Request). charger_after s q (transact_answer s false heard room)) e
