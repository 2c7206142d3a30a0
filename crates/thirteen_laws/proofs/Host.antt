-- What a host can change: the error code and nothing else.
-- Assumes nothing.
use Prim.Native.Nat.{ℕ}
use mathlib.Core.Bool.{Bool, true, false, cond, not, true≢false}
use mathlib.Core.List.{List, [], ◌∷◌}
use mathlib.Core.Path.{◌≡◌, refl, sym, ap, ◌∙◌}
use native.Mathlib.Omega.{arith}
use borrow.Author.Tests.{ne_eqb}
use lib.Dec.{ltb}
use lib.ListN.{length}
use Rattle.commands.specs.Answers.{bare, write_answer, request_answer, side_answer, served}
use Rattle.frame.specs.declared.Request.{Request}
use Rattle.frame.specs.declared.Request.TheVariants.{Refused, Read, Write}
use Rattle.frame_laws.proofs.Requests.{refused_number, read_is}
use Rattle.rooms.proofs.Choice.{chosen}
use Rattle.thirteen.proofs.Answers.{refusal, refused_no_reply}
use Rattle.thirteen.specs.Transact.{thirteen_side, outcome, asked, transact_answer, transact_of}
use Rattle.thirteen_laws.proofs.Rows.{by_row}
use Rattle.thirteen_laws.specs.Events.{result, answer}
use Rattle.thirteen_laws.specs.Promises.{NoWriteServed, HostChangesNothing, CodeLeft, RefusedCall, RefusedRoom, RefusedSample}
use Rattle.thirteen_pack.specs.Sample.{sampled_of, sample_of}
use Rattle.thirteen_pack.specs.Sound.{sound_of}
use Rattle.pack.specs.declared.Answered.{Answered}
use Rattle.thirteen_pack.specs.declared.ThirteenState.{ThirteenState}

abbrev Refuses : ℕ → Type 0
Refuses n = served n ≡ false

pub no_write_served : NoWriteServed
unfolding transact_answer side_answer
no_write_served s c h =
    chosen Refuses (not (sound_of s)) (λ e. refl) (λ e. chosen Refuses (ltb c.room 34) (λ f. refl) (λ f. go (asked c.read c.bytes) refl))
  where
    go : (q : Request) → asked c.read c.bytes ≡ q → Refuses (request_answer (thirteen_side s) q)
    go (Refused n) e =
        let r = refused_number 0x16 c.read c.bytes n e in
        simp (ne_eqb n 0 (λ z. omega (arith, r.0, z)), ne_eqb n 10 (λ z. omega (arith, r.1, z)))
    go (Read command) e = absurd (true≢false (sym ((read_is 0x16 c.read c.bytes command).0 e).0 ∙ h))
    go (Write command word checked) e =
        chosen Refuses (bare (thirteen_side s) checked) (λ f. refl) (λ f. by_row (λ k. Refuses (write_answer k)) command (λ g. refl) refl refl refl)

pub host_changes_nothing : HostChangesNothing
unfolding transact_of
host_changes_nothing s [] = refl
host_changes_nothing s (c ∷ cs) = host_changes_nothing (result s c).state cs

pub code_left : CodeLeft
unfolding transact_of
code_left s c = refl

pub refused : RefusedCall
unfolding transact_of
refused s c v = ap (λ (x : List ℕ). outcome s (answer s c) (length x)) (refused_no_reply s c.read c.bytes c.room (answer s c) refl v)

pub refused_room : RefusedRoom
refused_room s read bytes room v = sym (refusal s read bytes room (transact_answer s read bytes (length room)) refl v).1

pub refused-sample : RefusedSample
unfolding sample_of
refused-sample s x cells n = go (sound_of s) n
  where
    served-by : Answered ThirteenState
    served-by = record { answer = 0; state = record { error = s.error; pack = sampled_of s.pack x cells } }

    go : (b : Bool) → ((cond (not b) (record { answer = 1; state = s }) served-by).answer ≡ 0 → ⊥) → (cond (not b) (record { answer = 1; state = s }) served-by).state ≡ s
    go true m = absurd (m refl)
    go false m = refl
