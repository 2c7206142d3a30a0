-- Request R-7: what every byte string is answered by the charger, the reply, and the state left.
-- Assumes nothing.
use Rattle.std.specs.Prelude.{ℕ, Bool, false, cond, List, [], length, Option, Some, None}
use Rattle.charger_state.specs.Charger.{sound_of, word_of}
use Rattle.charger.specs.Commands.{charger_kind}
use Rattle.charger_written.specs.Written.{charger_written}
use Rattle.charger_state.specs.declared.Charger.{Charger}
use Rattle.commands.specs.declared.Transacted.{Transacted}
use Rattle.commands.specs.Answers.{Side, side_answer, served, side_reply}
use Rattle.device.specs.declared.Written.{Written}
use Rattle.frame.specs.Transactions.{request_of}
use Rattle.frame.specs.declared.Request.{Request}
use Rattle.frame.specs.declared.Request.TheVariants.{Refused, Read, Write}
use Rattle.rooms.specs.Rooms.{placed}

-- the charger's side of the bus: at 0x12 with its table of commands; writes come with or without PEC; 2: lent reply room under 3 bytes; every word that it
-- shows is answered 0, and it has no block (RULES 14.1)
abbrev pub charger_side : Charger → Side
charger_side s =
    record {
      address = 0x12;
      kinds = charger_kind;
      must_check = false;
      least = 3;
      sound = sound_of s;
      word_answer = λ command. 0;
      word = λ command. word_of s command;
      block_answer = λ command. 0;
      block = λ command. [];
    }

-- only a served write changes the state (RULES 2.3)
abbrev pub charger_after : Charger → Request → ℕ → Charger
charger_after s (Refused n) answer = s
charger_after s (Read command) answer = s
charger_after s (Write command word checked) answer = cond (served answer) (charger_written s command word) s

-- the same, by the write that is served
abbrev pub left_by : Charger → Option Written → Charger
left_by s None = s
left_by s (Some write) = charger_written s write.command write.word

-- answer, state and number of reply bytes; the charger keeps no error code (RULES 14.1)
abbrev pub outcome : ℕ → Charger → ℕ → Transacted Charger
outcome answer state length = record { answer = answer; state = state; length = length }

-- the request that the driver's bytes and mark are, at the write byte 0x12 (RULES 14.1)
abbrev pub asked : Bool → List ℕ → Request
asked read bytes = request_of 0x12 read bytes

-- the answer to the driver's bytes and mark, for a state and the length of the lent reply room (RULES 2.1)
unfoldable pub transact_answer : Charger → Bool → List ℕ → ℕ → ℕ
transact_answer s read bytes room = side_answer (charger_side s) (asked read bytes) room

-- the reply to them (RULES 5.4)
unfoldable pub transact_reply : Charger → Bool → List ℕ → ℕ → List ℕ
transact_reply s read bytes room = side_reply (charger_side s) bytes (asked read bytes) (transact_answer s read bytes room)

-- what a request is given by its answer
abbrev pub request_given : Charger → List ℕ → Request → ℕ → Transacted Charger
request_given s bytes request answer = outcome answer (charger_after s request answer) (length (side_reply (charger_side s) bytes request answer))

-- what the driver's bytes and mark are given (RULES 2)
unfoldable pub transact_of : Charger → Bool → List ℕ → ℕ → Transacted Charger
transact_of s read bytes room = request_given s bytes (asked read bytes) (transact_answer s read bytes room)

-- the lent reply room: the reply's bytes at the front, the rest stays (RULES 2.3, 2.5)
unfoldable pub reply_room : Charger → Bool → List ℕ → List ℕ → List ℕ
reply_room s read bytes room = placed (transact_reply s read bytes (length room)) room
