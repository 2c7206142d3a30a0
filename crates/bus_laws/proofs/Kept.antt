-- What a call leaves of the registers: nothing but the error bits changes by a read, a refused call or an altered write.
-- Assumes nothing.
use Prim.Native.Nat.{◌<◌}
use mathlib.Core.Bool.{Bool, true, false}
use mathlib.Core.Logic.{◌⊎◌, inl, inr}
use mathlib.Core.Path.{◌≡◌, refl, sym, ap, subst}
use native.Mathlib.Omega.{arith}
use Rattle.bus.proofs.Answers.{unsound, refused-outcome}
use Rattle.bus.specs.Transact.{pack_after, asked, transact_of}
use Rattle.commands.specs.declared.Transacted.{Transacted}
use Rattle.bus_laws.proofs.Served.{idle_keeps}
use Rattle.bus_laws.proofs.Soundness.{sound_stays}
use Rattle.bus_laws.specs.Calls.{Call, result, answer, SameRegisters}
use Rattle.bus_laws.specs.Promises.{IdleRegisters, AlteredKeeps, AlteredRegisters}
use Rattle.commands.specs.Answers.{code_after}
use Rattle.frame.specs.declared.Request.{Request}
use Rattle.frame.specs.declared.Request.TheVariants.{Refused}
use Rattle.frame_laws.proofs.Requests.{altered}
use Rattle.gauge_laws.proofs.Words.{other_words, status_above_code}
use Rattle.pack.proofs.Soundness.{code_of_sound}
use Rattle.pack.specs.Sound.{sound_of}
use Rattle.pack.specs.declared.State.{State}

-- a state that isn't sound stays as it is
unsound_stays : (s : State) (c : Call) → sound_of s ≡ false → (result s c).state ≡ s
unfolding code_after
unsound_stays s c e =
    ap (λ (r : Transacted State). r.state)
    (refused-outcome s c.service c.factory c.read c.bytes c.room 1 (unsound s c.service c.factory c.read c.bytes c.room e) refl)

-- of two sound states with one pack no register differs but the error bits
pub one_pack : (s t : State) → sound_of s ≡ true → sound_of t ≡ true → t.pack ≡ s.pack → SameRegisters s t
one_pack s t h k e =
    let first : s.error < 16 = omega (arith, code_of_sound s h) in
    let second : t.error < 16 = omega (arith, code_of_sound t k) in
    record { words = λ command n. other_words t s command e n; status = status_above_code t s e second first }

-- with the pack as it was, no register differs but the error bits
same_registers : (s : State) (c : Call) → (result s c).state.pack ≡ s.pack → SameRegisters s (result s c).state
same_registers s c e = go (sound_of s) refl
  where
    go : (b : Bool) → sound_of s ≡ b → SameRegisters s (result s c).state
    go false u = subst (λ (t : State). SameRegisters s t) (sym (unsound_stays s c u)) (record { words = λ command n. refl; status = refl })
    go true h = one_pack s (result s c).state h (sound_stays s c h) e

-- after a read or a refused call every word reads as before, but for the low four bits of 16
pub idle_registers : IdleRegisters
idle_registers s c h = same_registers s c (idle_keeps s c h)

-- ---- a right five-byte write altered in one to three bits, on any state and room

pub altered_keeps : AlteredKeeps
unfolding transact_of
altered_keeps s service factory sent heard room p r l n m = go (altered 0x16 sent heard p r l n m)
  where
    c : Call
    c = record { service = service; factory = factory; read = false; bytes = heard; room = room }

    go : (asked false heard ≡ Refused 3) ⊎ (asked false heard ≡ Refused 5) → pack_after s.pack (asked false heard) (answer s c) ≡ s.pack
    go (inl e) = ap (λ (q : Request). pack_after s.pack q (answer s c)) e
    go (inr e) = ap (λ (q : Request). pack_after s.pack q (answer s c)) e

-- it changes no register but the error bits
pub altered_registers : AlteredRegisters
altered_registers s service factory sent heard room p r l n m =
    same_registers s (record { service = service; factory = factory; read = false; bytes = heard; room = room }) (altered_keeps s service factory sent heard room p r l n m)
