-- Request R-10: what every byte string is answered by the thirteen-cell pack, the reply, and the state left.
-- Assumes nothing.
use Rattle.std.specs.Prelude.{ℕ, Bool, true, List, length}
use Rattle.commands.specs.Answers.{Side, code_after, side_answer, side_reply}
use Rattle.frame.specs.Transactions.{request_of}
use Rattle.frame.specs.declared.Request.{Request}
use Rattle.rooms.specs.Rooms.{placed}
use Rattle.thirteen.specs.Commands.{thirteen_kind}
use Rattle.commands.specs.declared.Transacted.{Transacted}
use Rattle.thirteen_pack.specs.Sound.{sound_of}
use Rattle.thirteen_pack.specs.declared.ThirteenState.{ThirteenState}
use Rattle.thirteen_words.specs.Cells.{cell_bytes}
use Rattle.thirteen_words.specs.Word.{word_of, word_answer}

-- the thirteen-cell pack at 0x16 with its table of commands; its writes must carry PEC; 2: lent reply room under 34 bytes; 10 comes with the word;
-- its block is all cells, with no count (RULES 15.1, 15.2, 15.8)
abbrev pub thirteen_side : ThirteenState → Side
thirteen_side s =
    record {
      address = 0x16;
      kinds = thirteen_kind;
      must_check = true;
      least = 34;
      sound = sound_of s;
      word_answer = λ command. word_answer s.pack command;
      word = λ command. word_of s.pack command;
      block_answer = λ command. 0;
      block = λ command. cell_bytes s.pack.cells;
    }

-- the state with the error code that the answer leaves, all else as it was (RULES 15.11)
abbrev pub left_by : ThirteenState → ℕ → ThirteenState
left_by s answer = record { error = code_after answer s.error; pack = s.pack }

-- the answer, the state with the error code that it leaves, all else as it was, and the number of reply bytes (RULES 15.11)
abbrev pub outcome : ThirteenState → ℕ → ℕ → Transacted ThirteenState
outcome s answer length =
    record { answer = answer; state = record { error = code_after answer s.error; pack = s.pack }; length = length }

-- the request that the driver's bytes and mark are, at the write byte 0x16 (RULES 5.1)
abbrev pub asked : Bool → List ℕ → Request
asked read bytes = request_of 0x16 read bytes

-- the answer to the driver's bytes and mark, for a state and the length of the lent reply room (RULES 2.1)
unfoldable pub transact_answer : ThirteenState → Bool → List ℕ → ℕ → ℕ
transact_answer s read bytes room = side_answer (thirteen_side s) (asked read bytes) room

-- the reply to them (RULES 5.4)
unfoldable pub transact_reply : ThirteenState → Bool → List ℕ → ℕ → List ℕ
transact_reply s read bytes room = side_reply (thirteen_side s) bytes (asked read bytes) (transact_answer s read bytes room)

-- what the driver's bytes and mark are given (RULES 2, 15.11)
unfoldable pub transact_of : ThirteenState → Bool → List ℕ → ℕ → Transacted ThirteenState
transact_of s read bytes room = outcome s (transact_answer s read bytes room) (length (transact_reply s read bytes room))

-- the lent reply room: the reply's bytes at the front, the rest stays (RULES 2.3, 2.5)
unfoldable pub reply_room : ThirteenState → Bool → List ℕ → List ℕ → List ℕ
reply_room s read bytes room = placed (transact_reply s read bytes (length room)) room
