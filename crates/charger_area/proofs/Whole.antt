-- The parts together: laid at their places, read back, and read and stored again.
-- Assumes nothing.
use mathlib.Core.Path.{◌≡◌, refl, sym, ap, ◌∙◌}
use mathlib.Core.Bool.{Bool, true, and-eq-true_iff}
use mathlib.Core.List.{List, [], ◌∷◌, ◌++◌, append-nil}
use Prim.Native.Nat.{ℕ, ◌+◌, ◌*◌, ◌%◌, ◌≤◌, ◌<◌}
use native.Mathlib.Omega.{arith}
use borrow.Author.Tests.{eqb-true}
use borrow.Rule.Slice.PartMut.{put_mid, mid_len}
use lib.Dec.{eqb}
use lib.ListN.{length, get_or, take, drop, length-append, length-drop, drop_of_length-le}
use lib.Seq.{sets, sets-eq, take_at, take-add, drop_at, drop-drop}
use Rattle.area.proofs.Whole.{lent}
use Rattle.area_parts.proofs.Parts.{flag_back, is_flag, flag_again, flag_within, latest_back, latest-again}
use Rattle.area_parts.specs.Parts.{latest_widths, latest_bytes}
use Rattle.charger_state.specs.declared.Asked.{Asked}
use Rattle.charger_state.specs.declared.Charger.{Charger}
use Rattle.charger_area.specs.Area.{asked_widths, asked_numbers, asked_from, asked_bytes, asked_in, is_asked, voltage_at, inhibited_at, count_at, latest_at, charger_length, charger_area_of, charger_in, is_charger_area, loaded, loaded_of}
use Rattle.charger_area.specs.Laws.{ChargerFits}
use Rattle.numbers.proofs.Numbers.{numbers_back, number-again, all-again, bytes_between}
use Rattle.numbers.specs.Numbers.{number_bytes, number_at, numbers_at, bytes_taken, flag_of, flagged, flags}
use Rattle.pack.specs.declared.Latest.{Latest}
use Rattle.rooms.specs.Rooms.{Bytes, between}

-- ---- laid at their places

-- one number more, stored behind what is laid
stored : (before rest bytes : List ℕ) (at : ℕ) {area next : List ℕ} → area ≡ before ++ rest → length before ≡ at → length bytes ≤ length rest
    → next ≡ sets area at bytes → next ≡ before ++ bytes ++ drop (length bytes) rest
stored before rest bytes at e k fits en =
    let room : at + length bytes ≤ length (before ++ rest) = simp length-append (omega arith) in
    en ∙ rw (e, sets-eq bytes (before ++ rest) at room, take_at before rest at k, ← drop-drop (length bytes) at (before ++ rest), drop_at before rest at k)

-- the parts, each at its place, are the area
pub state_laid : (room : List ℕ) (s : Charger) {current voltage inhibited count latest : List ℕ} → length room ≡ charger_length
    → current ≡ asked_bytes s.ChargingCurrent
    → voltage ≡ asked_bytes s.ChargingVoltage
    → inhibited ≡ sets (put_mid voltage_at (bytes_taken asked_widths) (put_mid 0 (bytes_taken asked_widths) room current) voltage) inhibited_at (number_bytes 1 (flag_of s.inhibited))
    → count ≡ sets inhibited count_at (number_bytes 4 s.count)
    → latest ≡ latest_bytes s.latest
    → put_mid latest_at (bytes_taken latest_widths) count latest ≡ charger_area_of s
unfolding charger_area_of
state_laid room s n ec ev ei ek el =
    let C = asked_bytes s.ChargingCurrent in
    let W = asked_bytes s.ChargingVoltage in
    let I = number_bytes 1 (flag_of s.inhibited) in
    let K = number_bytes 4 s.count in
    let L = latest_bytes s.latest in
    let after_current = drop (bytes_taken asked_widths) room in
    let after_voltage = drop (bytes_taken asked_widths) after_current in
    let after_inhibited = drop 1 after_voltage in
    let after_count = drop 4 after_inhibited in
    let current = lent [] room C 0 (bytes_taken asked_widths) refl refl in
    let voltage = lent C after_current W voltage_at (bytes_taken asked_widths) current refl in
    let inhibited = stored (C ++ W) after_voltage I inhibited_at voltage refl (simp length-drop (omega arith)) (rw (ec, ev) at ei) in
    let count = stored (C ++ W ++ I) after_inhibited K count_at inhibited refl (simp length-drop (omega arith)) ek in
    let last : length after_count ≤ bytes_taken latest_widths = simp length-drop (omega arith) in
    rw el
    (lent (C ++ W ++ I ++ K) after_count L latest_at (bytes_taken latest_widths) count refl
    ∙ ap (λ (l : List ℕ). C ++ W ++ I ++ K ++ L ++ l) (drop_of_length-le after_count last)
    ∙ append-nil (C ++ W ++ I ++ K ++ L))

-- ---- stored, then read

module _ (a : Asked) (small : a.word < 65536) where
  asked-numbers : numbers_at asked_widths (asked_bytes a) 0 ≡ asked_numbers a
  asked-numbers = numbers_back asked_widths (asked_numbers a) (asked_bytes a) 0 (small, (flag_within a.taken, (flag_within a.awaited, tt))) refl

  asked-back : asked_in (asked_bytes a) ≡ a
  asked-back = ap asked_from asked-numbers ∙ rw (flag_back a.taken, flag_back a.awaited)

  asked_is : is_asked (asked_bytes a) ≡ true
  asked_is = ap (λ (ns : List ℕ). flags (drop 1 ns)) asked-numbers ∙ rw (is_flag a.taken, is_flag a.awaited)

same : {c c' v v' : Asked} {i i' : Bool} {k k' : ℕ} {l l' : Latest} → c ≡ c' → v ≡ v' → i ≡ i' → k ≡ k' → l ≡ l'
    → ◌≡◌ {A = Charger}
    (record { ChargingCurrent = c; ChargingVoltage = v; inhibited = i; count = k; latest = l })
    (record { ChargingCurrent = c'; ChargingVoltage = v'; inhibited = i'; count = k'; latest = l' })
same pc pv pi pk pl = rw (pc, pv, pi, pk, pl)

-- a flag's byte, read
flag_read : (b : Bool) → flag_of b % 256 + 256 * 0 ≡ flag_of b
flag_read b = omega (arith, flag_within b)

pub read_back : (s : Charger) → ChargerFits s → charger_in (charger_area_of s) ≡ s
unfolding charger_in charger_area_of
read_back s f =
    let count = ap (λ (ns : List ℕ). get_or ns 0 0) (numbers_back (4 ∷ []) (s.count ∷ []) (number_bytes 4 s.count) 0 (f.count, tt) refl) in
    same (asked-back s.ChargingCurrent f.current) (asked-back s.ChargingVoltage f.voltage) (ap flagged (flag_read s.inhibited) ∙ flag_back s.inhibited) count (latest_back s.latest f.latest)

area_is : (s : Charger) → ChargerFits s → is_charger_area (charger_area_of s) ≡ true
unfolding charger_area_of
area_is s f = rw (asked_is s.ChargingCurrent f.current, asked_is s.ChargingVoltage f.voltage, flag_read s.inhibited, is_flag s.inhibited)

-- what was stored is loaded
pub loaded_back : (s : Charger) → ChargerFits s → loaded_of (charger_area_of s) ≡ loaded s
unfolding loaded_of
loaded_back s f = rw (area_is s f, read_back s f)

-- ---- read, then stored

asked_again : (part : List ℕ) → Bytes part → length part ≡ bytes_taken asked_widths → is_asked part ≡ true → asked_bytes (asked_in part) ≡ part
asked_again part b n is =
    let f = (and-eq-true_iff _ _).0 is in
    rw (flag_again (number_at 1 part 2) f.0, flag_again (number_at 1 part 3) ((and-eq-true_iff _ _).0 f.1).0) (all-again part b asked_widths n)

joined : {c c' v v' i i' k k' l l' : List ℕ} → c ≡ c' → v ≡ v' → i ≡ i' → k ≡ k' → l ≡ l' → c ++ v ++ i ++ k ++ l ≡ c' ++ v' ++ i' ++ k' ++ l'
joined pc pv pi pk pl = rw (pc, pv, pi, pk, pl)

-- the parts between the places are all bytes
all_parts : (a : List ℕ) → length a ≡ charger_length
    → between a 0 voltage_at ++ between a voltage_at inhibited_at ++ between a inhibited_at count_at ++ between a count_at latest_at ++ between a latest_at charger_length ≡ a
all_parts a size =
    rw (
      ← take-add voltage_at (bytes_taken asked_widths) a,
      ← take-add inhibited_at 1 a,
      ← take-add count_at 4 a,
      ← take-add latest_at (bytes_taken latest_widths) a,
    )
    (ap (take charger_length) (sym (append-nil a)) ∙ take_at a [] charger_length size)

-- what makes bytes an area, test by test
area_tests : (a : List ℕ) → is_charger_area a ≡ true
    → (eqb (length a) charger_length ≡ true) × (is_asked (between a 0 voltage_at) ≡ true) × (is_asked (between a voltage_at inhibited_at) ≡ true) × (flags (number_at 1 a inhibited_at ∷ []) ≡ true)
area_tests a is =
    let inhibited = (and-eq-true_iff _ (flags (number_at 1 a inhibited_at ∷ []))).0 is in
    let voltage = (and-eq-true_iff _ (is_asked (between a voltage_at inhibited_at))).0 inhibited.0 in
    let current = (and-eq-true_iff (eqb (length a) charger_length) (is_asked (between a 0 voltage_at))).0 voltage.0 in
    (current.0, current.1, voltage.1, inhibited.1)

pub area_size : (a : List ℕ) → is_charger_area a ≡ true → length a ≡ charger_length
area_size a is = eqb-true _ _ (area_tests a is).0

pub held : (a : List ℕ) → Bytes a → is_charger_area a ≡ true → charger_area_of (charger_in a) ≡ a
unfolding charger_area_of charger_in
held a b is =
    let tests = area_tests a is in
    let size = area_size a is in
    let flag = flag_again (number_at 1 a inhibited_at) ((and-eq-true_iff _ _).0 tests.3).0 in
    joined
    (asked_again (between a 0 voltage_at) (bytes_between a b 0 voltage_at) (mid_len 0 voltage_at a (omega arith)) tests.1)
    (asked_again (between a voltage_at inhibited_at) (bytes_between a b voltage_at inhibited_at) (mid_len voltage_at inhibited_at a (omega arith)) tests.2)
    (ap (number_bytes 1) flag ∙ ap (take 1) (number-again a b 1 inhibited_at (omega arith)))
    (ap (take 4) (number-again a b 4 count_at (omega arith)))
    (latest-again (between a latest_at charger_length) (bytes_between a b latest_at charger_length) (mid_len latest_at charger_length a (omega arith)))
    ∙ all_parts a size
