-- A BatteryStatus read shows the code before it, 5 after answer 10, and leaves 0.
-- Assumes nothing.
use Prim.Native.Nat.{ℕ, ◌≤◌}
use mathlib.Core.Bool.{true}
use mathlib.Core.Logic.{inl}
use mathlib.Core.Path.{◌≡◌, ap, ap₂, ◌∙◌}
use native.Mathlib.Omega.{arith}
use Rattle.bus.specs.Transact.{transact_of}
use Rattle.bus_laws.proofs.Exchanges.{served_reply}
use Rattle.bus_laws.proofs.Served.{read-answer, past_two, idle_keeps}
use Rattle.bus_laws.proofs.Soundness.{sound_stays}
use Rattle.bus_laws.specs.Calls.{Call, answer, Reads}
use Rattle.bus_laws.specs.Promises.{StatusShows, StatusLeaves, TenShows}
use Rattle.commands.specs.Answers.{code_after, served}
use Rattle.commands.specs.Commands.{kind_of}
use Rattle.gauge.specs.Word.{given_of}
use Rattle.gauge_laws.proofs.Words.{status_code}
use Rattle.pack.proofs.Soundness.{code_of_sound}
use Rattle.pack.specs.Sound.{sound_of}
use Rattle.pack.specs.declared.Pack.{Pack}
use Rattle.pack.specs.declared.State.{State}

status_served : (s : State) (c : Call) → sound_of s ≡ true → 34 ≤ c.room → Reads c 0x16 → answer s c ≡ 0
unfolding kind_of given_of
status_served s c sound room reads = read-answer s c 0x16 sound room reads

pub status_shows : StatusShows
unfolding kind_of
status_shows s c sound room reads =
    (served_reply s c 0x16 reads (ap (λ (n : ℕ). served n) (status_served s c sound room reads)), status_code s (omega (arith, code_of_sound s sound)))

pub status_leaves : StatusLeaves
unfolding transact_of code_after
status_leaves s c sound room reads =
    ap₂ (λ (n : ℕ) (p : Pack). record { error = code_after n s.error; pack = p }) (status_served s c sound room reads) (idle_keeps s c (inl reads.0))

pub ten_shows : TenShows
unfolding transact_of code_after
ten_shows s c t d ten e room reads =
    let sound : sound_of t ≡ true = ap (λ (u : State). sound_of u) e ∙ sound_stays s c (past_two s c (ap (λ (n : ℕ). served n) ten)).0 in
    let code : t.error ≡ 5 = ap (λ (u : State). u.error) e ∙ ap (λ (n : ℕ). code_after n s.error) ten in
    let shown = status_shows t d sound room reads in
    (shown.0, shown.1 ∙ code, status_leaves t d sound room reads)
