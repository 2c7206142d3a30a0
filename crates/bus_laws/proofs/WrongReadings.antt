-- Wrong readings of the page, shut out: 11 to 13 are no charger commands at 0x16, and 0x12 is another's address.
-- Assumes nothing.
use Prim.Native.Nat.{ℕ, ◌≤◌}
use mathlib.Core.Bool.{true, cond}
use mathlib.Core.Path.{◌≡◌, refl, ap, ◌∙◌}
use Rattle.bus.specs.Transact.{pack_side, transact_answer}
use Rattle.bus_laws.proofs.Exchanges.{served_reply}
use Rattle.bus_laws.proofs.Served.{read-answer, write-answer}
use Rattle.bus_laws.specs.Calls.{Call, answer, reply, visit, Reads, ReadsOnly}
use Rattle.bus_laws.specs.Promises.{NoChargerCommands, OtherAddresses}
use Rattle.capacity.proofs.Bounds.{either}
use Rattle.commands.specs.Answers.{read_answer, write_answer, served, read_body}
use Rattle.commands.specs.Commands.{kind_of}
use Rattle.commands.specs.declared.Kind.{Kind}
use Rattle.commands.specs.declared.Kind.TheVariants.{ReadOnly}
use Rattle.commands_laws.proofs.Visits.{other_address}
use Rattle.frame.specs.Transactions.{reply_of, word_body}
use Rattle.gauge.specs.Word.{given_of}
use Rattle.minutes.specs.Minutes.{time_word, was_cut_off, given_word, given_answer}
use Rattle.minutes.specs.declared.Given.TheVariants.{Until}
use Rattle.minutes.specs.declared.Time.{Time}
use Rattle.pack.specs.Sound.{sound_of}
use Rattle.pack.specs.declared.State.{State}

-- a read-only row that gives a time
reads_only : (s : State) (c : Call) (command : ℕ) (t : Time) → sound_of s ≡ true → 34 ≤ c.room
    → kind_of command ≡ ReadOnly → given_of s command ≡ Until t → ReadsOnly s c command t
reads_only s c command t sound room k g = (λ r. (by-time r, shown r), λ written h. write-answer s c command written sound room h ∙ ap write_answer k)
  where
    by-time : Reads c command → answer s c ≡ cond (was_cut_off t) 10 0
    by-time r = read-answer s c command sound room r ∙ ap (λ (q : Kind). read_answer (pack_side s c.service c.factory) command q) k ∙ ap (λ x. given_answer x) g

    shown : Reads c command → reply s c ≡ reply_of c.bytes (word_body (time_word t))
    shown r =
        served_reply s c command r (ap (λ (n : ℕ). served n) (by-time r) ∙ either (λ (n : ℕ). served n ≡ true) (was_cut_off t) 10 0 refl refl)
        ∙ ap (λ (q : Kind). reply_of c.bytes (read_body (pack_side s c.service c.factory) command q)) k
        ∙ ap (λ x. reply_of c.bytes (word_body (given_word x))) g

pub no_charger_commands : NoChargerCommands
unfolding kind_of given_of
no_charger_commands s c sound room = (
  reads_only s c 0x11 _ sound room refl refl,
  reads_only s c 0x12 _ sound room refl refl,
  reads_only s c 0x13 _ sound room refl refl,
)

pub other_addresses : OtherAddresses
unfolding transact_answer
other_addresses s c address rest sound room b n = other_address (visit s c) address rest (sound, room) b n
