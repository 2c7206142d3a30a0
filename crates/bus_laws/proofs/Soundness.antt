-- Every call on a sound state leaves a sound state.
-- Assumes nothing.
use Prim.Native.Nat.{ℕ, ◌≤◌}
use mathlib.Core.Bool.{Bool, true, false, cond, true≢false}
use mathlib.Core.Path.{◌≡◌, refl, sym}
use native.Mathlib.Omega.{arith}
use lib.Dec.{eqb}
use Rattle.bus.specs.Transact.{pack_after, asked, transact_of}
use Rattle.bus_laws.specs.Calls.{answer}
use Rattle.bus_laws.specs.Promises.{SoundStays}
use Rattle.commands.proofs.Answers.{code_most}
use Rattle.commands.specs.Answers.{code_after, served}
use Rattle.frame.specs.declared.Request.{Request}
use Rattle.frame.specs.declared.Request.TheVariants.{Refused, Read, Write}
use Rattle.pack.proofs.Soundness.{timers_facts, timers-sound, parts, pack-sound, pack_of_sound, code_of_sound, sound_state, with_error}
use Rattle.pack.specs.Sound.{timers_sound, sound_of}
use Rattle.pack.specs.declared.Host.{Host}
use Rattle.pack.specs.declared.Timers.{Timers}
use Rattle.pack.specs.declared.State.{State}
use Rattle.written.specs.Written.{bit_set, host_written, timers_written, pack_written}

-- ---- a write to 03 or not (here), with bit 13 or 14 (b), over a timer (t) and a mode bit (m)

hold_most : (here b : Bool) (t : ℕ) → t ≤ 60000 → cond here (cond b 60000 0) t ≤ 60000
hold_most true true t h = omega arith
hold_most true false t h = omega arith
hold_most false b t h = h

charger_most : (here b : Bool) (t : ℕ) → t ≤ 29999 → cond here (cond b 0 t) t ≤ 29999
charger_most true true t h = omega arith
charger_most true false t h = h
charger_most false b t h = h

stands : (here b m : Bool) (t : ℕ) → (m ≡ true → t ≡ 0) → cond here b m ≡ true → cond here (cond b 0 t) t ≡ 0
stands true true m t f h = refl
stands true false m t f h = absurd (true≢false (sym h))
stands false b m t f h = f h

ended : (here b m : Bool) (t : ℕ) → (t ≡ 0 → m ≡ false) → ◌≡◌ {A = ℕ} (cond here (cond b 60000 0) t) 0 → cond here b m ≡ false
ended true true m t f h = absurd (omega (arith, h))
ended true false m t f h = refl
ended false b m t f h = f h

clear : (here b m : Bool) (t : ℕ) → (m ≡ false → t ≡ 0) → cond here b m ≡ false → ◌≡◌ {A = ℕ} (cond here (cond b 60000 0) t) 0
clear true true m t f h = absurd (true≢false h)
clear true false m t f h = refl
clear false b m t f h = f h

written_timers : (h : Host) (t : Timers) (command word : ℕ) → timers_sound h t ≡ true → timers_sound (host_written h command word) (timers_written t command word) ≡ true
unfolding host_written timers_written
written_timers h t command word e =
    let f = timers_facts h t e in
    let here : Bool = eqb command 0x03 in
    timers-sound _ _
    (record {
      hold = hold_most here (bit_set 13 word) t.hold f.hold;
      alarm = f.alarm;
      charger = charger_most here (bit_set 14 word) t.charger f.charger;
      stands = stands here (bit_set 14 word) h.ChargerMode t.charger f.stands;
      ended = ended here (bit_set 13 word) h.AlarmMode t.hold f.ended;
      clear = clear here (bit_set 13 word) h.AlarmMode t.hold f.clear;
    })

-- any write, with any code of at most 7
written_sound : (s : State) (command word code : ℕ) → code ≤ 7 → sound_of s ≡ true → sound_of (record { error = code; pack = pack_written s.pack command word }) ≡ true
unfolding pack_written
written_sound s command word code l h =
    let p = parts s.pack (pack_of_sound s h) in
    sound_state _
    (pack-sound _
    (record { settings = p.settings; tank = p.tank; toward = p.toward; run = p.run; recent = p.recent; timers = written_timers s.pack.host s.pack.timers command word p.timers }))
    l

pub sound_stays : SoundStays
unfolding transact_of
sound_stays s c h = go (asked c.read c.bytes)
  where
    code : ℕ
    code = code_after (answer s c) s.error

    small : code ≤ 7
    small = code_most 7 (answer s c) s.error (omega arith) (code_of_sound s h)

    by-write : (command word : ℕ) (v : Bool) → sound_of (record { error = code; pack = cond v (pack_written s.pack command word) s.pack }) ≡ true
    by-write command word true = written_sound s command word code small h
    by-write command word false = with_error s code small h

    go : (q : Request) → sound_of (record { error = code; pack = pack_after s.pack q (answer s c) }) ≡ true
    go (Refused n) = with_error s code small h
    go (Read command) = with_error s code small h
    go (Write command word checked) = by-write command word (served (answer s c))
