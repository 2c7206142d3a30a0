-- What holds of any side of the bus holds of the thirteen-cell pack: served replies are right, of 6 or 30 bytes; exchanges differ; a command misheard shows up.
-- Assumes nothing.
use Prim.Native.Nat.{ℕ}
use mathlib.Core.Bool.{Bool, true, false, cond, true≢false}
use mathlib.Core.List.{List}
use mathlib.Core.Path.{◌≡◌, refl, sym, ap, ◌∙◌}
use native.Mathlib.Omega.{arith}
use lib.Dec.{eqb}
use lib.ListN.{length}
use Rattle.commands.specs.Answers.{served, read_answer, read_body}
use Rattle.commands.specs.Commands.{is_block}
use Rattle.commands.specs.declared.Kind.{Kind}
use Rattle.commands.specs.declared.Kind.TheVariants.{ReadWrite, ReadOnly, WriteOnly, Block, Optional, Reserved}
use Rattle.commands_laws.proofs.Visits as visits
use Rattle.commands_laws.specs.Visits.{BlockFits, VisitExchanged}
use Rattle.frame.specs.Transactions.{read_bytes}
use Rattle.frame_laws.proofs.Replies.{word_exchange, body_exchange}
use Rattle.frame_laws.specs.Exchanges.{exchange_of}
use Rattle.gauge_laws.proofs.Minutes.{at}
use Rattle.rooms.proofs.Choice.{chosen}
use Rattle.thirteen.specs.Commands.{is_word, is_not_built, thirteen_kind}
use Rattle.thirteen.specs.Transact.{thirteen_side, transact_answer, transact_reply}
use Rattle.thirteen_laws.proofs.Words.{word_below}
use Rattle.thirteen_laws.specs.Events.{Call, visit, Exchanged}
use Rattle.thirteen_laws.specs.Promises.{Replied, ExchangePasses, ExchangeLength, ExchangeAccepted, ExchangesApart, Misheard}
use Rattle.thirteen_pack.specs.Fits.{CellsFit}
use Rattle.thirteen_pack.specs.declared.ThirteenState.{ThirteenState}
use Rattle.thirteen_words.proofs.Cells.{cells_length, cells-bytes}
use Rattle.thirteen_words.specs.Cells.{cell_bytes}
use Rattle.thirteen_words.specs.Word.{word_of}

pub served_reply : Replied
unfolding transact_answer transact_reply
served_reply s c command r v = visits.served_reply (visit s c) command r v

pub exchange_passes : ExchangePasses
unfolding transact_answer transact_reply
exchange_passes s c command r v = visits.exchange_passes (visit s c) command r v

-- all cells are 26 bytes
block_fits : (s : ThirteenState) (command : ℕ) → CellsFit s.pack.cells → BlockFits (thirteen_side s) command
block_fits s command f k =
    let n = cells_length s.pack.cells in (omega (arith, n, f.thirteen), omega (arith, n, f.thirteen))

pub exchange_accepted : ExchangeAccepted
unfolding transact_answer transact_reply
exchange_accepted s c command r v f = visits.exchange_accepted (visit s c) command r v (block_fits s command f)

-- no row but that of F1 is a block
not_block : (command : ℕ) → eqb command 0xF1 ≡ false → is_block (thirteen_kind command) ≡ false
unfolding thirteen_kind
not_block command e =
    chosen No (is_word command) (λ f. refl)
    (λ f. chosen No (eqb command 0xF1) (λ g. absurd (true≢false (sym g ∙ e))) (λ g. chosen No (is_not_built command) (λ h. refl) (λ h. refl)))
  where
    No : Kind → Type 0
    No k = is_block k ≡ false

of_words : (s : ThirteenState) (command : ℕ) (k : Kind) → is_block k ≡ false → served (read_answer (thirteen_side s) command k) ≡ true
    → length (exchange_of (read_bytes 0x16 command) (read_body (thirteen_side s) command k)) ≡ 6
of_words s command ReadOnly b v = word_exchange 0x16 command (word_of s.pack command)
of_words s command ReadWrite b v = word_exchange 0x16 command (word_of s.pack command)
of_words s command Block b v = absurd (true≢false b)
of_words s command WriteOnly b v = absurd (true≢false (sym v))
of_words s command Optional b v = absurd (true≢false (sym v))
of_words s command Reserved b v = absurd (true≢false (sym v))

-- how long an exchange is where its row is served
long : (s : ThirteenState) (command : ℕ) → CellsFit s.pack.cells → served (read_answer (thirteen_side s) command (thirteen_kind command)) ≡ true
    → length (exchange_of (read_bytes 0x16 command) (read_body (thirteen_side s) command (thirteen_kind command))) ≡ cond (eqb command 0xF1) 30 6
unfolding thirteen_kind
long s command f =
    at Long command 0xF1 (λ v. omega (arith, body_exchange 0x16 0xF1 (cell_bytes s.pack.cells), cells_length s.pack.cells, f.thirteen))
    (λ e v. of_words s command (thirteen_kind command) (not_block command e) v ∙ sym (ap (λ (b : Bool). cond b 30 6) e))
  where
    Long : ℕ → Type 0
    Long n =
        served (read_answer (thirteen_side s) n (thirteen_kind n)) ≡ true
        → length (exchange_of (read_bytes 0x16 n) (read_body (thirteen_side s) n (thirteen_kind n))) ≡ cond (eqb n 0xF1) 30 6

pub exchange_length : ExchangeLength
unfolding transact_answer transact_reply
exchange_length s c command r v f =
    ap (λ (x : List ℕ). length x) (visits.whole (visit s c) command r v) ∙ long s command f (visits.row_served (visit s c) command r v)

exchanged : (s : ThirteenState) (c : Call) → Exchanged s c → VisitExchanged (visit s c)
unfolding transact_answer
exchanged s c x =
    record {
      command = x.command;
      reads = x.reads;
      is-served = x.is-served;
      address = omega arith;
      a_byte = x.a_byte;
      word = word_below s x.command (visits.served_heard (visit s c) x.is-served).0 x.fits;
      block = cells-bytes s.pack.cells x.fits.cells.words;
    }

pub exchanges_apart : ExchangesApart
unfolding transact_answer transact_reply
exchanges_apart s t c d x y = visits.exchanges_apart (visit s c) (visit t d) (exchanged s c x) (exchanged t d y)

pub misheard : Misheard
unfolding transact_answer transact_reply exchanged
misheard s c x = visits.misheard (visit s c) (exchanged s c x)
