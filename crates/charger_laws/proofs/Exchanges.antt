-- What holds of any side of the bus holds of the charger at 0x12: served replies are right, of 6 bytes; exchanges differ; a command misheard shows up.
-- Assumes nothing.
use Prim.Native.Nat.{ℕ, ◌^◌, ◌≤◌, ◌<◌}
use mathlib.Core.Bool.{Bool, true, false, cond, true≢false}
use mathlib.Core.Path.{◌≡◌, refl, sym, ap, ◌∙◌}
use native.Mathlib.Omega.{arith}
use lib.Dec.{eqb}
use lib.ListN.{length}
use Rattle.charger_state.specs.Charger.{alarm_inhibited, voltage_not_met, current_not_met, status_of, word_of}
use Rattle.charger.specs.Commands.{is_shown, is_taken, charger_kind}
use Rattle.charger.specs.Transact.{charger_side, transact_answer, transact_reply}
use Rattle.charger_state.specs.declared.Charger.{Charger}
use Rattle.charger_laws.specs.Events.{Call, answer, exchange, visit, Reads, Exchanged}
use Rattle.charger_laws.specs.Promises.{ExchangePasses, ExchangeAccepted, ExchangesApart, Misheard}
use Rattle.commands.specs.Answers.{served}
use Rattle.commands.specs.Lengths.{Lengths}
use Rattle.commands.specs.declared.Kind.{Kind}
use Rattle.commands.specs.Commands.{is_block}
use Rattle.commands.specs.declared.Kind.TheVariants.{Optional}
use Rattle.commands_laws.proofs.Visits as visits
use Rattle.commands_laws.specs.Visits.{BlockFits, VisitExchanged}
use Rattle.rooms.proofs.Choice.{chosen}
use Rattle.registers.specs.Registers.{bit}

-- every exchange of the charger's is a word's
of_a_word : (command n : ℕ) → (charger_kind command ≡ Optional → ⊥) × Lengths (charger_kind command) n → n ≡ 6
unfolding charger_kind
of_a_word command n h =
    chosen (λ (k : Kind). Lengths k n → n ≡ 6) (is_shown command) (λ e l. l)
    (λ e. chosen (λ (k : Kind). Lengths k n → n ≡ 6) (is_taken command) (λ f l. absurd l) (λ f l. absurd l)) h.1

-- none of its rows is a block
never_block : (command : ℕ) → is_block (charger_kind command) ≡ false
unfolding charger_kind
never_block command =
    chosen (λ (k : Kind). is_block k ≡ false) (is_shown command) (λ e. refl)
    (λ e. chosen (λ (k : Kind). is_block k ≡ false) (is_taken command) (λ f. refl) (λ f. refl))

no_block : (s : Charger) (command : ℕ) → BlockFits (charger_side s) command
no_block s command k = absurd (true≢false (sym (ap is_block k) ∙ never_block command))

six_bytes : (s : Charger) (c : Call) (command : ℕ) → Reads c command → served (answer s c) ≡ true → length (exchange s c) ≡ 6
unfolding transact_answer transact_reply
six_bytes s c command r v = of_a_word command (length (exchange s c)) (visits.exchange_length (visit s c) command r v (no_block s command))

pub exchange_passes : ExchangePasses
unfolding transact_answer transact_reply
exchange_passes s c command r v = (visits.exchange_passes (visit s c) command r v, six_bytes s c command r v)

pub exchange_accepted : ExchangeAccepted
unfolding transact_answer transact_reply
exchange_accepted s c command r v = visits.exchange_accepted (visit s c) command r v (no_block s command)

-- ---- its words are words

bit_most : (k : ℕ) (b : Bool) → bit k b ≤ 2 ^ k
bit_most k true = omega arith
bit_most k false = omega arith

status_below : (s : Charger) → status_of s < 65536
unfolding status_of
status_below s =
    omega (arith, bit_most 12 (alarm_inhibited s), bit_most 3 (current_not_met s), bit_most 2 (voltage_not_met s), bit_most 0 s.inhibited)

word_below : (s : Charger) (command : ℕ) → word_of s command < 65536
word_below s command = chosen (λ (n : ℕ). n < 65536) (eqb command 0x11) (λ e. omega arith) (λ e. status_below s)

exchanged : (s : Charger) (c : Call) → Exchanged s c → VisitExchanged (visit s c)
unfolding transact_answer
exchanged s c x =
    record {
      command = x.command;
      reads = x.reads;
      is-served = x.is-served;
      address = omega arith;
      a_byte = x.a_byte;
      word = word_below s x.command;
      block = tt;
    }

pub exchanges_apart : ExchangesApart
unfolding transact_answer transact_reply
exchanges_apart s t c d x y =
    visits.exchanges_apart (visit s c) (visit t d) (exchanged s c x) (exchanged t d y)
    (six_bytes s c x.command x.reads x.is-served ∙ sym (six_bytes t d y.command y.reads y.is-served))

pub misheard : Misheard
unfolding transact_answer transact_reply exchanged
misheard s c x = visits.misheard (visit s c) (exchanged s c x)
