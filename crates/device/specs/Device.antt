-- Document 01, Answer numbers and Transactions: what a transaction with any side of the bus is given.
-- Assumes nothing.
use Rattle.std.specs.Prelude.{ℕ, Bool, cond, List, length, Option, Some, None}
use Rattle.commands.specs.Answers.{Side, read_answer, request_answer, side_answer, served, side_reply, row_reply}
use Rattle.commands.specs.declared.Kind.{Kind}
use Rattle.device.specs.declared.Done.{Done}
use Rattle.device.specs.declared.Replied.{Replied}
use Rattle.device.specs.declared.Written.{Written}
use Rattle.frame.specs.Transactions.{request_of}
use Rattle.frame.specs.declared.Request.{Request}
use Rattle.frame.specs.declared.Request.TheVariants as request
use Rattle.rooms.specs.Rooms.{placed}

-- the request that the driver's bytes and mark are, at the side's write byte (RULES 5.1)
abbrev pub asked : Side → Bool → List ℕ → Request
asked d read bytes = request_of d.address read bytes

-- the write that a request is, where it is served (RULES 2.3)
abbrev pub write_served : Request → ℕ → Option Written
write_served (request.Refused n) answer = None
write_served (request.Read command) answer = None
write_served (request.Write command word checked) answer = cond (served answer) (Some (record { command = command; word = word })) None

-- what a read is given where its answer is that of its command's row: answer and number of reply bytes
abbrev pub row_given : Side → List ℕ → ℕ → Kind → Replied
row_given d bytes command kind = record { answer = read_answer d command kind; length = length (row_reply d bytes command kind) }

-- what a request is given by its answer
abbrev pub given_by : Side → List ℕ → Request → ℕ → Done
given_by d bytes request answer = record { answer = answer; length = length (side_reply d bytes request answer); write = write_served request answer }

-- what a write is given past answers 1 to 3 and 5
abbrev pub written_by : Side → ℕ → ℕ → Bool → Done
written_by d command word checked =
    record { answer = request_answer d (request.Write command word checked); length = 0; write = write_served (request.Write command word checked) (request_answer d (request.Write command word checked)) }

-- what the driver's bytes and mark are given, in a lent reply room of so many bytes (RULES 2)
unfoldable pub done_of : Side → Bool → List ℕ → ℕ → Done
done_of d read bytes room = given_by d bytes (asked d read bytes) (side_answer d (asked d read bytes) room)

-- the lent reply room: the reply's bytes at the front, the rest stays (RULES 2.3, 2.5)
unfoldable pub room_after : Side → Bool → List ℕ → List ℕ → List ℕ
room_after d read bytes room = placed (side_reply d bytes (asked d read bytes) (side_answer d (asked d read bytes) (length room))) room
