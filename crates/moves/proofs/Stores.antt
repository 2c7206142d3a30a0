-- A copy as stores, and stores one after the other. Assumes nothing.
use mathlib.Core.Path.{◌≡◌, refl, sym, ap, ◌∙◌}
use mathlib.Core.List.{List, [], ◌∷◌, ◌++◌}
use Prim.Native.Nat.{ℕ, suc, ◌+◌, ◌-◌, ◌≤◌, ◌<◌}
use native.Mathlib.Nat.{add-zero}
use native.Mathlib.Omega.{arith}
use lib.ListN.{length, take, drop, set, replicate}
use lib.Seq.{sets, slice, paste, sets-eq, set_comm, length-slice}
use Rattle.std.proofs.lemmas.List.{drop-take}
use Rattle.rooms.proofs.Rooms.{then}

-- a store below the stores
set_before : (l : List ℕ) (i : ℕ) (vs : List ℕ) (j v : ℕ) → j < i → set (sets l i vs) j v ≡ sets (set l j v) i vs
set_before l i [] j v h = refl
set_before l i (w ∷ vs) j v h =
    let ne : i ≡ j → ⊥ = λ e. omega arith in
    set_before (set l i w) (suc i) vs j v (omega arith) ∙ ap (λ (k : List ℕ). sets k (suc i) vs) (set_comm l i j w v ne)

-- a copy of the bytes from..to is stores of them
pub copied : (l : List ℕ) (from to at : ℕ) {m : List ℕ} → from ≤ to → to ≤ length l → at + (to - from) ≤ length l → m ≡ paste l at (drop from l) (to - from) → m ≡ sets l at (slice from to l)
copied l from to at h k fits e =
    let t : from + (to - from) ≡ to = omega arith in
    let s : slice from to l ≡ take (to - from) (drop from l) = ap (λ (j : ℕ). slice from j l) (sym t) ∙ drop-take from (to - from) l in
    let n : length (slice from to l) ≡ to - from = length-slice from to l k in
    e ∙ sym (sets-eq (slice from to l) l at (omega arith) ∙ ap (λ (j : ℕ). take at l ++ slice from to l ++ drop (at + j) l) n ∙ ap (λ (v : List ℕ). take at l ++ v ++ drop (at + (to - from)) l) s)

-- ---- two calls, one after the other

-- stores right before earlier ones
pub sets_before : (l : List ℕ) (i : ℕ) (vs ws : List ℕ) → sets (sets l (i + length vs) ws) i vs ≡ sets l i (vs ++ ws)
sets_before l i [] ws = rw add-zero
sets_before l i (v ∷ vs) ws =
    let e : i + suc (length vs) ≡ suc i + length vs = omega arith in
    rw (set_before l (i + suc (length vs)) ws i v (omega arith), e) (sets_before (set l i v) (suc i) vs ws)

pub cut_is : (l : List ℕ) (end at by : ℕ) {m : List ℕ} → at + by ≤ end → end ≤ length l → m ≡ sets l (at + by - by) (slice (at + by) end l)
    → sets m (end - by) (replicate (end - (end - by)) 0) ≡ sets l at (slice (at + by) end l ++ replicate by 0)
cut_is l end at by h k e =
    let n : length (slice (at + by) end l) ≡ end - (at + by) = length-slice (at + by) end l k in
    let z : at + by - by ≡ at = omega arith in
    let y : end - (end - by) ≡ by = omega arith in
    let e' = rw z at e in
    rw y (then l at (end - by) (slice (at + by) end l) (replicate by 0) e' (omega arith))
