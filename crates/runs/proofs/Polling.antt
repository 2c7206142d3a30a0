-- Two apps that poll one pack: every read left out of a history, or those of one app.
-- Assumes nothing.
use Prim.Native.Nat.{ℕ, ◌%◌}
use mathlib.Core.Bool.{Bool, true, false, cond, not, ◌||◌}
use mathlib.Core.List.{List, [], ◌∷◌, ◌++◌}
use mathlib.Core.Path.{◌≡◌, refl, ap, ◌∙◌}
use native.Mathlib.Omega.{arith}
use Rattle.bus.specs.Transact.{transact_answer, transact_of}
use Rattle.bus_laws.proofs.Kept.{one_pack}
use Rattle.bus_laws.proofs.Status.{status_shows}
use Rattle.bus_laws.specs.Calls.{Call, result, answer}
use Rattle.chatter.proofs.Chatter.{any_choice}
use Rattle.chatter.specs.Struck.{Struck, none, stays, strikes, strike}
use Rattle.commands.specs.Answers.{side_answer, served, code_after}
use Rattle.frame.specs.Transactions.{read_bytes, request_of}
use Rattle.gauge.specs.Word.{word_of}
use Rattle.pack.specs.Sound.{sound_of}
use Rattle.pack.specs.declared.Pack.{Pack}
use Rattle.pack.specs.declared.Sample.{Sample}
use Rattle.pack.specs.declared.State.{State}
use Rattle.runs.proofs.Chatter.{chatter_is_idle}
use Rattle.runs.proofs.Histories.{step_sound}
use Rattle.runs.proofs.Measures.{set_up_sound}
use Rattle.runs.specs.Events.{Event, sample, call, step}
use Rattle.runs.specs.Polling.{unpolled, PollingDisturbsNothing, AppsDontMeet, CodeIsShared}
use Rattle.runs.specs.Since.{from_set_up}
use Rattle.runs.specs.Struck.{pack_party}
use Rattle.start.specs.SetUp.{set_up_refused, zero_state, pack_of, set_up_of}
use Rattle.start.specs.declared.Setup.{Setup}
use Rattle.pack.specs.declared.Answered.{Answered}

-- what is left out is idle
reads_struck : (s : State) (es : List Event) → Struck pack_party s es (unpolled es)
reads_struck s [] = none
reads_struck s (sample x n ∷ es) = stays (reads_struck (step s (sample x n)) es)
reads_struck s (call c ∷ es) = go c.read refl (reads_struck (step s (call c)) es)
  where
    go : (b : Bool) → c.read ≡ b → Struck pack_party (step s (call c)) es (unpolled es)
        → Struck pack_party s (call c ∷ es) (cond b [] (call c ∷ []) ++ unpolled es)
    go true r later = strikes (ap (λ (b : Bool). b || not (served (answer s c))) r) later
    go false r later = stays later

pub polling_disturbs_nothing : PollingDisturbsNothing
polling_disturbs_nothing u first es a =
    let all = chatter_is_idle u first es (unpolled es) a (reads_struck (from_set_up u first) es) in
    let same = all.unmoved.state in
    record {
      alarms = all.broadcast;
      elapsed = all.elapsed;
      charge = ap (λ (p : Pack). p.tank.charge) same.pack;
      full = ap (λ (p : Pack). p.tank.full) same.pack;
      cycles = ap (λ (p : Pack). p.tank.CycleCount) same.pack;
      toward = ap (λ (p : Pack). p.tank.toward) same.pack;
      drawn = ap (λ (p : Pack). p.tank.run) same.pack;
      minute = ap (λ (p : Pack). p.recent) same.pack;
      timers = ap (λ (p : Pack). p.timers) same.pack;
      registers = one_pack _ _ same.sound_second same.sound_first same.pack;
    }

pub apps_dont_meet : AppsDontMeet
apps_dont_meet u first es second a =
    let s = from_set_up u first in
    let r = any_choice pack_party second s es in
    (r, chatter_is_idle u first es (strike pack_party second s es) a r)

-- ---- the error code is shared

-- a write of one byte has the wrong form
abbrev short_write : Call
short_write = record { service = []; factory = []; read = false; bytes = 0x16 ∷ []; room = 34 }

wrong_form : (s : State) → sound_of s ≡ true → answer s short_write ≡ 4
unfolding transact_answer side_answer request_of
wrong_form s h = simp h

leaves_six : (s : State) → sound_of s ≡ true → (result s short_write).state.error ≡ 6
unfolding transact_of code_after
leaves_six s h = ap (λ (n : ℕ). code_after n s.error) (wrong_form s h)

abbrev status_read : Call
status_read = record { service = []; factory = []; read = true; bytes = read_bytes 0x16 0x16; room = 34 }

shown : (s : State) → sound_of s ≡ true → word_of s 0x16 % 16 ≡ s.error
shown s h = (status_shows s status_read h (omega arith) (refl, refl)).1

-- set-up gives code 0, served or refused
begins_at_0 : (u : Setup) (first : Sample) → (from_set_up u first).error ≡ 0
unfolding set_up_of
begins_at_0 u first = go (set_up_refused u)
  where
    go : (b : Bool) → (cond {A = Answered State} b (record { answer = 11; state = zero_state }) (record { answer = 0; state = record { error = 0; pack = pack_of u first } })).state.error ≡ 0
    go true = refl
    go false = refl

pub code_is_shared : CodeIsShared
code_is_shared u first a =
    let s = from_set_up u first in
    let h = set_up_sound u first a in (
      call short_write,
      ap (λ (n : ℕ). not (served n)) (wrong_form s h),
      shown s h ∙ begins_at_0 u first,
      shown (step s (call short_write)) (step_sound s (call short_write) h) ∙ leaves_six s h,
    )
