-- The stores of a transaction: what they leave of an area, and that they are enough.
-- Assumes nothing.
use mathlib.Core.Bool.{Bool, true, false, not, ◌&&◌, and-eq-true_iff, true≢false}
use mathlib.Core.List.{List, [], ◌∷◌, ◌++◌, append_assoc}
use mathlib.Core.Path.{◌≡◌, refl, sym, ap, ◌∙◌}
use Prim.Native.Nat.{ℕ, zero, suc, ◌+◌, ◌-◌, ◌%◌, ◌<◌}
use native.Mathlib.Omega.{arith}
use borrow.Author.Tests.{eq-eqb, ne_eqb, lt-leb}
use borrow.Rule.Slice.PartMut.{put_mid, mid_len}
use lib.Dec.{eqb, ltb, leb}
use lib.ListN.{length, take, drop, set, length-append, take-append-drop}
use lib.Seq.{drop-drop}
use Rattle.area.proofs.Whole.{lent}
use Rattle.area.specs.Area.{settings_at, host_at, latest_at, timers_at, area_length, area_of}
use Rattle.area_parts.specs.Parts.{settings_widths, host_widths, timers_widths, host_bytes, timers_bytes}
use Rattle.bus.specs.Transact.{pack_side, pack_after, asked, transact_answer, transact_of}
use Rattle.commands.specs.declared.Transacted.{Transacted}
use Rattle.commands.proofs.Answers.{none_served}
use Rattle.commands.specs.Answers.{Side, code_after, side_answer}
use Rattle.frame.proofs.Marks.{by_read}
use Rattle.frame.specs.declared.Request.{Request}
use Rattle.frame.specs.declared.Request.TheVariants.{Refused, Read, Write}
use Rattle.numbers.specs.Numbers.{number_bytes, bytes_taken}
use Rattle.pack.specs.declared.Pack.{Pack}
use Rattle.pack.specs.declared.State.{State}
use Rattle.rooms.proofs.Choice.{chosen}
use Rattle.rooms.proofs.Rooms.{front}
use Rattle.rooms.specs.Rooms.{between}
use Rattle.calls.specs.Calls.{stays, area_after}
use Rattle.calls.specs.Stores.{error_stored, written_stored, transact_stored}
use Rattle.written.specs.Written.{pack_written}

-- ---- what the stores leave

pub error_put : (area : List ℕ) (error : ℕ) → length area ≡ area_length → error < 256 → set area 0 error ≡ error_stored area error
error_put area error n small =
    let e : error % 256 ≡ error = omega arith in
    rw e (front (error ∷ []) area (omega arith))

-- the bytes from one place on are those to another place and those from there on
parted : (area : List ℕ) (from n : ℕ) → drop from area ≡ take n (drop from area) ++ drop (from + n) area
parted area from n = sym (take-append-drop n (drop from area)) ∙ ap (λ (l : List ℕ). take n (drop from area) ++ l) (drop-drop n from area)

pub written_put : (area : List ℕ) (s : State) {first host timers : List ℕ} → length area ≡ area_length
    → first ≡ error_stored area s.error → host ≡ host_bytes s.pack.host → timers ≡ timers_bytes s.pack.timers
    → put_mid timers_at (bytes_taken timers_widths) (put_mid host_at (bytes_taken host_widths) first host) timers ≡ written_stored area s
written_put area s n ef eh et =
    let E = number_bytes 1 s.error in
    let S = between area settings_at host_at in
    let H = host_bytes s.pack.host in
    let M = between area latest_at timers_at in
    let sized : length (E ++ S) ≡ host_at = ap suc (mid_len settings_at host_at area (omega arith)) in
    let host = lent (E ++ S) (drop host_at area) H host_at (bytes_taken host_widths) (ef ∙ ap (λ (l : List ℕ). E ++ l) (parted area settings_at (bytes_taken settings_widths))) sized in
    let past = ap (λ (l : List ℕ). E ++ S ++ H ++ l) (drop-drop (bytes_taken host_widths) host_at area ∙ parted area latest_at (timers_at - latest_at)) ∙ sym (append_assoc (E ++ S ++ H) M (drop timers_at area)) in
    let R = timers_bytes s.pack.timers in
    let wide : length (E ++ S ++ H ++ M) ≡ timers_at = simp length-append (omega (arith, mid_len settings_at host_at area (omega arith), mid_len latest_at timers_at area (omega arith))) in
    let timers = lent (E ++ S ++ H ++ M) (drop timers_at area) R timers_at (bytes_taken timers_widths) (host ∙ past) wide in
    rw (eh, et) (timers ∙ ap (λ (l : List ℕ). E ++ S ++ H ++ M ++ R ++ l) (drop-drop (bytes_taken timers_widths) timers_at area))

-- ---- which of them there are

pub stores_parts : (area : List ℕ) (read : Bool) (answer : ℕ) (state : State) → (eqb answer 0 && not read) ≡ true
    → transact_stored area read answer state ≡ written_stored area state
unfolding transact_stored
stores_parts area read answer state e = rw e

pub stores_nothing : (area : List ℕ) (read : Bool) (answer : ℕ) (state : State) → (eqb answer 0 && not read) ≡ false → (ltb 0 answer && leb answer 3) ≡ true
    → transact_stored area read answer state ≡ area
unfolding transact_stored
stores_nothing area read answer state e f = rw (e, f)

pub stores_error : (area : List ℕ) (read : Bool) (answer : ℕ) (state : State) → (eqb answer 0 && not read) ≡ false → (ltb 0 answer && leb answer 3) ≡ false
    → transact_stored area read answer state ≡ error_stored area state.error
unfolding transact_stored
stores_error area read answer state e f = rw (e, f)

-- ---- that they are enough

-- the state that a request leaves, by its answer
abbrev left : State → Request → ℕ → State
left s q n = record { error = code_after n s.error; pack = pack_after s.pack q n }

-- a served write changes no other part
written_enough : (s : State) (q : Request) (n : ℕ) (b : Bool) → (eqb n 0 && b) ≡ true → written_stored (area_of s) (left s q n) ≡ area_after (area_of s) n (left s q n)
unfolding area_of pack_written
written_enough s (Refused n) zero b e = refl
written_enough s (Read command) zero b e = refl
written_enough s (Write command word checked) zero b e = refl
written_enough s q (suc n) b e = absurd (true≢false (sym ((and-eq-true_iff (eqb (suc n) 0) b).0 e).0 ∙ ne_eqb (suc n) 0 (λ z. omega (arith, z))))

-- 1 to 3 change nothing
nothing_enough : (s : State) (q : Request) (n : ℕ) → (ltb 0 n && leb n 3) ≡ true → area_of s ≡ area_after (area_of s) n (left s q n)
unfolding code_after
nothing_enough s q zero e = absurd (true≢false (sym e))
nothing_enough s q (suc zero) e = refl
nothing_enough s q (suc (suc zero)) e = refl
nothing_enough s (Refused n) (suc (suc (suc zero))) e = refl
nothing_enough s (Read command) (suc (suc (suc zero))) e = refl
nothing_enough s (Write command word checked) (suc (suc (suc zero))) e = refl
nothing_enough s q (suc (suc (suc (suc n)))) e =
    let m = suc (suc (suc (suc n))) in
    absurd (true≢false (sym ((and-eq-true_iff (ltb 0 m) (leb m 3)).0 e).1 ∙ lt-leb m 3 (omega arith)))

-- states that differ in the error code alone have areas that differ in the first byte alone
error_enough : (s : State) (error : ℕ) → error_stored (area_of s) error ≡ area_of (record { error = error; pack = s.pack })
unfolding area_of
error_enough s error = refl

past_three : (n : ℕ) → (ltb 0 n && leb n 3) ≡ false → stays n ≡ false
past_three zero e = refl
past_three (suc zero) e = absurd (true≢false e)
past_three (suc (suc zero)) e = absurd (true≢false e)
past_three (suc (suc (suc n))) e = let m = suc (suc (suc n)) in rw (ne_eqb m 1 (λ z. omega (arith, z)), ne_eqb m 2 (λ z. omega (arith, z)))

-- a read changes nothing but the error code
read_stays : (p : Pack) (bytes : List ℕ) (answer : ℕ) → pack_after p (asked true bytes) answer ≡ p
read_stays p bytes answer = by_read (λ q. pack_after p q answer ≡ p) 0x16 bytes (λ n. refl) (λ command. refl)

other_stays : (d : Side) (p : Pack) (q : Request) (room : ℕ) → (eqb (side_answer d q room) 0 && true) ≡ false → pack_after p q (side_answer d q room) ≡ p
other_stays d p (Refused n) room e = refl
other_stays d p (Read command) room e = refl
other_stays d p (Write command word checked) room e =
    rw (none_served d command word checked room (λ z. true≢false (sym (ap (λ (t : Bool). t && true) (eq-eqb _ _ z)) ∙ e)))

module _ (s : State) (service factory bytes : List ℕ) (room : ℕ) where
  pack-stays : (read : Bool) → (eqb (transact_answer s service factory read bytes room) 0 && not read) ≡ false
      → pack_after s.pack (asked read bytes) (transact_answer s service factory read bytes room) ≡ s.pack
  unfolding transact_answer
  pack-stays true e = read_stays s.pack bytes (transact_answer s service factory true bytes room)
  pack-stays false e = other_stays (pack_side s service factory) s.pack (asked false bytes) room e

  enough : (read : Bool)
      → transact_stored (area_of s) read (transact_of s service factory read bytes room).answer (transact_of s service factory read bytes room).state
      ≡ area_after (area_of s) (transact_of s service factory read bytes room).answer (transact_of s service factory read bytes room).state
  unfolding transact_stored transact_of
  enough read =
      let n = transact_answer s service factory read bytes room in
      let q = asked read bytes in
      let P : List ℕ → Type 0 = λ area. area ≡ area_after (area_of s) n (left s q n) in
      chosen P (eqb n 0 && not read) (written_enough s q n (not read))
      (λ e. chosen P (ltb 0 n && leb n 3) (nothing_enough s q n)
      (λ f. rw (past_three n f, pack-stays read e) (error_enough s (code_after n s.error))))

  -- so they leave what the call must, in any area that holds the state
  pub kept : (read : Bool) {a : List ℕ} {out : Transacted State} → area_of s ≡ a → out ≡ transact_of s service factory read bytes room
      → transact_stored a read out.answer out.state ≡ area_after a out.answer out.state
  kept read ea eo = rw (eo, ← ea) (enough read)
