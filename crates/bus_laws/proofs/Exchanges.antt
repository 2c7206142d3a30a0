-- What holds of any side of the bus holds of the pack at 0x16: served replies are right, at their length; exchanges differ; a command misheard shows up.
-- Assumes nothing.
use Prim.Native.Nat.{ℕ, zero, suc, ◌-◌}
use mathlib.Core.List.{List, [], ◌∷◌}
use native.Mathlib.Omega.{arith}
use lib.ListN.{drop}
use Rattle.bus.specs.Transact.{pack_side, transact_answer, transact_reply}
use Rattle.bus_laws.specs.Calls.{Call, visit, Exchanged}
use Rattle.bus_laws.specs.Promises.{PackReplied, PackPasses, PackAccepted, PackLength, PackApart, PackMisheard}
use Rattle.commands_laws.proofs.Visits as visits
use Rattle.commands_laws.specs.Visits.{BlockFits, VisitExchanged}
use Rattle.frame_laws.proofs.Replies.{block_bytes}
use Rattle.gauge_laws.proofs.Range.{word_below}
use Rattle.pack.specs.declared.State.{State}
use Rattle.rooms.proofs.Rooms.{first_bytes}
use Rattle.rooms.specs.Rooms.{Bytes}
use Rattle.sheet.proofs.Names.{block-short}
use Rattle.sheet.specs.Block.{Part, of_service, of_factory, part_of, part_bytes, block_of}

pub served_reply : PackReplied
unfolding transact_answer transact_reply
served_reply s c command r v = visits.served_reply (visit s c) command r v

pub exchange_passes : PackPasses
unfolding transact_answer transact_reply
exchange_passes s c command r v = visits.exchange_passes (visit s c) command r v

-- a name has at most 32 bytes, and its count before them
block_fits : (s : State) (c : Call) (command : ℕ) → BlockFits (pack_side s c.service c.factory) command
block_fits s c command k = (omega arith, omega (arith, block-short c.service c.factory command))

pub exchange_accepted : PackAccepted
unfolding transact_answer transact_reply
exchange_accepted s c command r v = visits.exchange_accepted (visit s c) command r v (block_fits s c command)

pub exchange_length : PackLength
unfolding transact_answer transact_reply
exchange_length s c command r v = visits.exchange_length (visit s c) command r v (block_fits s c command)

-- ---- what the pack shows are bytes

bytes_drop : (n : ℕ) (xs : List ℕ) → Bytes xs → Bytes (drop n xs)
bytes_drop zero xs h = h
bytes_drop (suc n) [] h = tt
bytes_drop (suc n) (x ∷ xs) h = bytes_drop n xs h.1

name_bytes : (service factory : List ℕ) (tag : ℕ) → Bytes service → Bytes factory → Bytes (block_of service factory tag)
unfolding block_of
name_bytes service factory tag hs hf = go (part_of service factory tag)
  where
    go : (p : Part) → Bytes (part_bytes p service factory)
    go (of_service a e) = first_bytes (e - a) (drop a service) (bytes_drop a service hs)
    go (of_factory a e) = first_bytes (e - a) (drop a factory) (bytes_drop a factory hf)

exchanged : (s : State) (c : Call) → Exchanged s c → VisitExchanged (visit s c)
unfolding transact_answer
exchanged s c x =
    record {
      command = x.command;
      reads = x.reads;
      is-served = x.is-served;
      address = omega arith;
      a_byte = x.a_byte;
      word = word_below s x.command (visits.served_heard (visit s c) x.is-served).0 x.fits;
      block =
          block_bytes (block_of c.service c.factory x.command) (block-short c.service c.factory x.command)
          (name_bytes c.service c.factory x.command x.service x.factory);
    }

pub exchanges_apart : PackApart
unfolding transact_answer transact_reply
exchanges_apart s t c d x y = visits.exchanges_apart (visit s c) (visit t d) (exchanged s c x) (exchanged t d y)

pub misheard : PackMisheard
unfolding transact_answer transact_reply exchanged
misheard s c x = visits.misheard (visit s c) (exchanged s c x)
