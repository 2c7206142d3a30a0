-- Bytes one by one, and what stores leave in a room: several in a row, at its front, over the whole of it.
-- Assumes nothing.
use mathlib.Core.Path.{◌≡◌, ap, sym, ◌∙◌}
use mathlib.Core.List.{List, [], ◌∷◌, ◌++◌, append-nil, append_assoc}
use Prim.Native.Nat.{ℕ, zero, suc, ◌+◌, ◌≤◌, ◌<◌}
use native.Mathlib.Nat.{add-zero}
use native.Mathlib.Numerals.{add-one}
use native.Mathlib.Omega.{arith}
use borrow.Rule.Slice.PartMut.{put_mid}
use lib.ListN.{length, get_or, take, drop, set, drop_of_length-le}
use lib.Seq.{drop-drop, sets, sets-eq, take-suc, length-take-le, drop-append_seam}
use Rattle.rooms.specs.Rooms.{Bytes, placed}

-- each of bytes is a byte
pub byte_at : (bytes : List ℕ) → Bytes bytes → (i : ℕ) → get_or bytes i 0 < 256
byte_at [] b i = omega arith
byte_at (x ∷ xs) b zero = b.0
byte_at (x ∷ xs) b (suc i) = byte_at xs b.1 i

-- what is known of a lent slice, that each of its elements is a byte, makes it bytes
pub all_bytes : (xs : List ℕ) → ((i : ℕ) → get_or xs i 0 < 256) → Bytes xs
all_bytes [] h = tt
all_bytes (x ∷ xs) h = (h zero, all_bytes xs (λ i. h (suc i)))

-- the first of them are bytes
pub first_bytes : (n : ℕ) (xs : List ℕ) → Bytes xs → Bytes (take n xs)
first_bytes zero xs b = tt
first_bytes (suc n) [] b = tt
first_bytes (suc n) (x ∷ xs) b = (b.0, first_bytes n xs b.1)

-- bytes stored one after another are stored in a row
pub sets_append : (l : List ℕ) (i : ℕ) (vs ws : List ℕ) → sets (sets l i vs) (i + length vs) ws ≡ sets l i (vs ++ ws)
sets_append l i [] ws = rw add-zero
sets_append l i (v ∷ vs) ws = let e : i + suc (length vs) ≡ suc i + length vs = omega arith in rw e (sets_append (set l i v) (suc i) vs ws)

-- the same, where the second place is known to follow the first stores
pub then : (l : List ℕ) (i j : ℕ) (vs ws : List ℕ) {m : List ℕ} → m ≡ sets l i vs → j ≡ i + length vs → sets m j ws ≡ sets l i (vs ++ ws)
then l i j vs ws e f = rw (e, f) (sets_append l i vs ws)

-- one more turn of a loop that stores the bytes of a list
pub one_more : (l : List ℕ) (at i : ℕ) (bytes : List ℕ) {m : List ℕ} → i < length bytes → m ≡ sets l at (take i bytes)
    → set m (at + i) (get_or bytes i 0) ≡ sets l at (take (i + 1) bytes)
one_more l at i bytes h e =
    let n : length (take i bytes) ≡ i = length-take-le i bytes (omega arith) in
    rw (add-one, take-suc bytes i 0 h) (then l at (at + i) (take i bytes) (get_or bytes i 0 ∷ []) e (omega arith))

-- a part of a room that now holds bytes is the room with those bytes stored in a row
pub part_stored : (room bytes part : List ℕ) (at k : ℕ) → k ≡ length bytes → part ≡ bytes → at + length bytes ≤ length room → put_mid at k room part ≡ sets room at bytes
part_stored room bytes part at k e f h = rw (e, f, drop-drop (length bytes) at room, sets-eq bytes room at h) (sym (append_assoc (take at room) bytes _))

-- stores from the first place on put the bytes at the front
pub front : (bytes room : List ℕ) → length bytes ≤ length room → sets room 0 bytes ≡ placed bytes room
front bytes room h =
    let e : 0 + length bytes ≡ length bytes = omega arith in
    sets-eq bytes room 0 (omega arith) ∙ ap (λ (n : ℕ). bytes ++ drop n room) e

-- as many bytes as the room has are all of it
pub whole : (room bytes : List ℕ) → length bytes ≡ length room → sets room 0 bytes ≡ bytes
whole room bytes e =
    let past : length room ≤ length bytes = omega arith in
    front bytes room (omega arith) ∙ ap (λ (l : List ℕ). bytes ++ l) (drop_of_length-le room past) ∙ append-nil bytes

-- those past the bytes at the front are as before
pub placed_rest : (bytes room : List ℕ) → drop (length bytes) (placed bytes room) ≡ drop (length bytes) room
placed_rest bytes room = drop-append_seam bytes (drop (length bytes) room)
