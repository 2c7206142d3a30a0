-- Document 01, Pack sheet and capture: writing a capture into a lent room. Assumes nothing: these are definitions.
use Rattle.std.specs.Prelude.{Bool, true, cond, ◌&&◌, List, [], ◌∷◌, ℕ, ◌+◌, leb, eqb, length, take, drop, Result, Ok, Err}
use Rattle.refusals.specs.declared.Refusal.{Refusal}
use Rattle.refusals.specs.declared.Refusal.TheVariants.{SmallRoom, NotACapture}
use Rattle.rooms.specs.Rooms.{placed}
use Rattle.capture.specs.Capture.{Row, fits, capture_of}

-- the rows that are given by their marks, their lengths and their bodies joined
unfoldable pub rows_given : List ℕ → List ℕ → List ℕ → List Row
rows_given [] sizes bodies = []
rows_given (mark ∷ marks) [] bodies = []
rows_given (mark ∷ marks) (size ∷ sizes) bodies = record { mark = mark; body = take size bodies } ∷ rows_given marks sizes (drop size bodies)

-- marks and lengths in turn
unfoldable pub interleaved : List ℕ → List ℕ → List ℕ
interleaved [] sizes = []
interleaved (mark ∷ marks) [] = []
interleaved (mark ∷ marks) (size ∷ sizes) = mark ∷ size ∷ interleaved marks sizes

unfoldable pub pairs_fit : List ℕ → List ℕ → Bool
pairs_fit [] sizes = true
pairs_fit (mark ∷ marks) [] = true
pairs_fit (mark ∷ marks) (size ∷ sizes) = fits mark size && pairs_fit marks sizes

unfoldable pub sum : List ℕ → ℕ
sum [] = 0
sum (size ∷ sizes) = size + sum sizes

-- as many lengths as marks, their number a byte, each row fits, and the lengths make up the bodies (RULES 10.1, 10.2)
unfoldable pub given_fit : List ℕ → List ℕ → List ℕ → Bool
given_fit marks sizes bodies = eqb (length marks) (length sizes) && leb (length marks) 255 && pairs_fit marks sizes && eqb (sum sizes) (length bodies)

-- the bytes that a capture of so much takes
abbrev pub room_asked : List ℕ → List ℕ → List ℕ → ℕ
room_asked marks sizes bodies = 1 + length marks + length sizes + length bodies

-- the capture of the rows given
abbrev pub capture_given : List ℕ → List ℕ → List ℕ → List ℕ
capture_given marks sizes bodies = capture_of (rows_given marks sizes bodies)

-- whether it may be written into a room of so many bytes, and else why not
abbrev pub capture_allowed : List ℕ → List ℕ → List ℕ → ℕ → Result (Unit {0}) Refusal
capture_allowed marks sizes bodies room =
    cond (leb (room_asked marks sizes bodies) room)
    (cond (given_fit marks sizes bodies) (Ok (tt {0})) (Err NotACapture))
    (Err SmallRoom)

-- the capture's length if it is written; else it is refused: the room is too short, then the rows are none of a capture (RULES 1.2, 1.14)
unfoldable pub capture_wrote : List ℕ → List ℕ → List ℕ → List ℕ → Result ℕ Refusal
capture_wrote marks sizes bodies room =
    cond (leb (room_asked marks sizes bodies) (length room))
    (cond (given_fit marks sizes bodies) (Ok (length (capture_given marks sizes bodies))) (Err NotACapture))
    (Err SmallRoom)

-- the capture at the front; else all stays (RULES 2.5)
unfoldable pub capture_room : List ℕ → List ℕ → List ℕ → List ℕ → List ℕ
capture_room marks sizes bodies room = cond (leb (room_asked marks sizes bodies) (length room) && given_fit marks sizes bodies) (placed (capture_given marks sizes bodies) room) room
