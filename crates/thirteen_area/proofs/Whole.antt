-- The parts together: laid at their places, read back, and read and stored again.
-- Assumes nothing.
use mathlib.Core.Path.{◌≡◌, refl, sym, ap, ◌∙◌}
use mathlib.Core.Bool.{true, and-eq-true_iff}
use mathlib.Core.List.{List, [], ◌++◌, append_assoc, append-nil}
use Prim.Native.Nat.{ℕ, ◌+◌, ◌*◌, ◌%◌, ◌≤◌, ◌<◌}
use native.Mathlib.Omega.{arith}
use borrow.Author.Tests.{eq-eqb, eqb-true}
use borrow.Rule.Slice.PartMut.{put_mid, mid_len}
use lib.Dec.{eqb}
use lib.ListN.{length, take, drop, length-append, length-drop, drop_of_length-le}
use lib.Seq.{sets, take_at, drop_at, take-add}
use Rattle.area.proofs.Whole.{lent}
use Rattle.area_parts.proofs.Parts.{flag_back, is_flag, flag_again, flag_within, latest_back, latest-again, numbers_bytes_length, numbers_within, recent-length, recent-back, recent-again}
use Rattle.area_parts.specs.Parts.{latest_widths, latest_bytes, recent_widths, recent_bytes, recent_in}
use Rattle.numbers.proofs.Numbers.{numbers_back, number-again, all-again, bytes_between}
use Rattle.numbers.specs.Numbers.{number_bytes, number_at, numbers_at, bytes_taken, flags}
use Rattle.pack.specs.declared.Latest.{Latest}
use Rattle.recent.specs.declared.Recent.{Recent}
use Rattle.rooms.proofs.Rooms.{front}
use Rattle.rooms.specs.Rooms.{Bytes, between}
use Rattle.thirteen_area.specs.Area.{fixed_widths, fixed_numbers, fixed_from, fixed_bytes, fixed_in, cells_widths, cells_bytes, cells_in, level_widths, level_numbers, level_from, level_bytes, level_in, is_level, fixed_at, latest_at, cells_at, level_at, recent_at, thirteen_length, thirteen_area_of, state_in, is_thirteen_area, loaded, loaded_of}
use Rattle.thirteen_pack.specs.Fits.{FixedFit, CellsFit, LevelFit, Fits}
use Rattle.thirteen_pack.specs.declared.Fixed.{Fixed}
use Rattle.thirteen_pack.specs.declared.Level.{Level}
use Rattle.thirteen_pack.specs.declared.ThirteenState.{ThirteenState}

-- ---- laid at their places

pub cells_length : (cells : List ℕ) → length cells ≡ 13 → length (cells_bytes cells) ≡ bytes_taken cells_widths
unfolding cells_bytes
cells_length cells n = numbers_bytes_length cells_widths cells (sym n)

-- the parts, each at its place, are the area
pub state_laid : (room : List ℕ) (s : ThirteenState) {area fixed latest cells level recent : List ℕ} → length room ≡ thirteen_length → length s.pack.cells ≡ 13
    → area ≡ sets room 0 (number_bytes 1 s.error)
    → fixed ≡ fixed_bytes s.pack.fixed
    → latest ≡ latest_bytes s.pack.latest
    → cells ≡ cells_bytes s.pack.cells
    → level ≡ level_bytes s.pack.level
    → recent ≡ recent_bytes s.pack.recent
    → put_mid recent_at (bytes_taken recent_widths)
    (put_mid level_at (bytes_taken level_widths)
    (put_mid cells_at (bytes_taken cells_widths) (put_mid latest_at (bytes_taken latest_widths) (put_mid fixed_at (bytes_taken fixed_widths) area fixed) latest) cells)
    level)
    recent
    ≡ thirteen_area_of s
unfolding thirteen_area_of
state_laid room s n thirteen ea ef el ec et ek =
    let E = number_bytes 1 s.error in
    let F = fixed_bytes s.pack.fixed in
    let L = latest_bytes s.pack.latest in
    let C = cells_bytes s.pack.cells in
    let T = level_bytes s.pack.level in
    let K = recent_bytes s.pack.recent in
    let after_error = drop fixed_at room in
    let after_fixed = drop (bytes_taken fixed_widths) after_error in
    let after_latest = drop (bytes_taken latest_widths) after_fixed in
    let after_cells = drop (bytes_taken cells_widths) after_latest in
    let after_level = drop (bytes_taken level_widths) after_cells in
    let size = cells_length s.pack.cells thirteen in
    let fixed = lent E after_error F fixed_at (bytes_taken fixed_widths) (ea ∙ front E room (omega arith)) refl in
    let latest = lent (E ++ F) after_fixed L latest_at (bytes_taken latest_widths) fixed refl in
    let cells = lent (E ++ F ++ L) after_latest C cells_at (bytes_taken cells_widths) latest refl in
    let level = lent (E ++ F ++ L ++ C) after_cells T level_at (bytes_taken level_widths) cells (omega (arith, size)) in
    let last : length after_level ≤ bytes_taken recent_widths = simp length-drop (omega arith) in
    rw (ef, el, ec, et, ek)
    (lent (E ++ F ++ L ++ C ++ T) after_level K recent_at (bytes_taken recent_widths) level (omega (arith, size, length-append C T))
    ∙ ap (λ (l : List ℕ). E ++ F ++ L ++ C ++ T ++ K ++ l) (drop_of_length-le after_level last)
    ∙ append-nil (E ++ F ++ L ++ C ++ T ++ K))

-- ---- each part stored, then read

fixed_back : (f : Fixed) → FixedFit f → fixed_in (fixed_bytes f) ≡ f
fixed_back f h = ap fixed_from (numbers_back fixed_widths (fixed_numbers f) (fixed_bytes f) 0 (h.DesignCapacity, (h.DesignVoltage, (h.StateOfHealth, tt))) refl)

cells_back : (cells : List ℕ) → CellsFit cells → cells_in (cells_bytes cells) ≡ cells
unfolding cells_in cells_bytes
cells_back cells h =
    numbers_back cells_widths cells (cells_bytes cells) 0 (rw (append-nil cells) at (numbers_within 2 13 cells [] [] h.thirteen h.words tt)) refl

module _ (l : Level) (h : LevelFit l) where
  level-numbers : numbers_at level_widths (level_bytes l) 0 ≡ level_numbers l
  level-numbers = numbers_back level_widths (level_numbers l) (level_bytes l) 0 (h.charge, (h.full, (flag_within l.FullyDischarged, tt))) refl

  level-back : level_in (level_bytes l) ≡ l
  level-back = ap level_from level-numbers ∙ rw (flag_back l.FullyDischarged)

  level-is : is_level (level_bytes l) ≡ true
  level-is = ap (λ (ns : List ℕ). flags (drop 2 ns)) level-numbers ∙ rw (is_flag l.FullyDischarged)

-- ---- the whole stored, then read

-- what lies between its place and the next is the part
part_at : (before part rest : List ℕ) (at n : ℕ) {area : List ℕ} → area ≡ before ++ (part ++ rest) → length before ≡ at → length part ≡ n → take n (drop at area) ≡ part
part_at before part rest at n e k m = rw (e, drop_at before (part ++ rest) at k, take_at part rest n m)

module _ (s : ThirteenState) (f : Fits s) where
  -- all before the cells; the cells; the level; the recent minute
  abbrev A : List ℕ
  A = number_bytes 1 s.error ++ fixed_bytes s.pack.fixed ++ latest_bytes s.pack.latest

  abbrev C : List ℕ
  C = cells_bytes s.pack.cells

  abbrev T : List ℕ
  T = level_bytes s.pack.level

  abbrev K : List ℕ
  K = recent_bytes s.pack.recent

  cells-size : length C ≡ bytes_taken cells_widths
  cells-size = cells_length s.pack.cells f.pack.cells.thirteen

  recent-size : length K ≡ bytes_taken recent_widths
  recent-size = recent-length s.pack.recent f.pack.recent.sixty

  cells-part : between (thirteen_area_of s) cells_at level_at ≡ C
  unfolding thirteen_area_of
  cells-part = part_at A C (T ++ K) cells_at (bytes_taken cells_widths) (append_assoc (A ++ C) T K ∙ append_assoc A C (T ++ K)) refl cells-size

  level-part : between (thirteen_area_of s) level_at recent_at ≡ T
  unfolding thirteen_area_of
  level-part = part_at (A ++ C) T K level_at (bytes_taken level_widths) (append_assoc (A ++ C) T K) (omega (arith, cells-size)) refl

  recent_part : between (thirteen_area_of s) recent_at thirteen_length ≡ K
  unfolding thirteen_area_of
  recent_part =
      part_at (A ++ C ++ T) K [] recent_at (bytes_taken recent_widths) (ap (λ (l : List ℕ). A ++ C ++ T ++ l) (sym (append-nil K))) (omega (arith, cells-size, length-append C T)) recent-size

  area_is : is_thirteen_area (thirteen_area_of s) ≡ true
  unfolding thirteen_area_of
  area_is =
      let size : length (thirteen_area_of s) ≡ thirteen_length = omega (arith, cells-size, recent-size, length-append C T, length-append (C ++ T) K) in
      rw (eq-eqb _ _ size) (ap is_level level-part ∙ level-is s.pack.level f.pack.level)

same : {e e' : ℕ} {f f' : Fixed} {l l' : Latest} {c c' : List ℕ} {v v' : Level} {k k' : Recent} → e ≡ e' → f ≡ f' → l ≡ l' → c ≡ c' → v ≡ v' → k ≡ k'
    → ◌≡◌ {A = ThirteenState}
    (record { error = e; pack = record { fixed = f; latest = l; cells = c; level = v; recent = k } })
    (record { error = e'; pack = record { fixed = f'; latest = l'; cells = c'; level = v'; recent = k' } })
same pe pf pl pc pv pk = rw (pe, pf, pl, pc, pv, pk)

pub read_back : (s : ThirteenState) → Fits s → s.pack.recent.count < 256 → state_in (thirteen_area_of s) ≡ s
unfolding state_in thirteen_area_of
read_back s f small =
    let p = f.pack in
    let code : s.error % 256 + 256 * 0 ≡ s.error = omega (arith, f.error) in
    same code (fixed_back s.pack.fixed p.fixed) (latest_back s.pack.latest p.latest)
    (ap cells_in (cells-part s f) ∙ cells_back s.pack.cells p.cells)
    (ap level_in (level-part s f) ∙ level-back s.pack.level p.level)
    (ap recent_in (recent_part s f) ∙ recent-back s.pack.recent p.recent small)

-- what was stored is loaded
pub loaded_back : (s : ThirteenState) → Fits s → s.pack.recent.count < 256 → loaded_of (thirteen_area_of s) ≡ loaded s
unfolding loaded_of
loaded_back s f small = rw (area_is s f, read_back s f small)

-- ---- read, then stored

module _ (part : List ℕ) (b : Bytes part) where
  cells-again : length part ≡ bytes_taken cells_widths → cells_bytes (cells_in part) ≡ part
  unfolding cells_bytes cells_in
  cells-again n = all-again part b cells_widths n

  level-again : length part ≡ bytes_taken level_widths → is_level part ≡ true → level_bytes (level_in part) ≡ part
  level-again n is = rw (flag_again (number_at 1 part 10) ((and-eq-true_iff _ _).0 is).0) (all-again part b level_widths n)

joined : {e e' f f' l l' c c' v v' k k' : List ℕ} → e ≡ e' → f ≡ f' → l ≡ l' → c ≡ c' → v ≡ v' → k ≡ k' → e ++ f ++ l ++ c ++ v ++ k ≡ e' ++ f' ++ l' ++ c' ++ v' ++ k'
joined pe pf pl pc pv pk = rw (pe, pf, pl, pc, pv, pk)

-- the parts between the places are all bytes
all_parts : (a : List ℕ) → length a ≡ thirteen_length
    → take fixed_at a ++ between a fixed_at latest_at ++ between a latest_at cells_at ++ between a cells_at level_at ++ between a level_at recent_at ++ between a recent_at thirteen_length ≡ a
all_parts a size =
    rw (
      ← take-add fixed_at (bytes_taken fixed_widths) a,
      ← take-add latest_at (bytes_taken latest_widths) a,
      ← take-add cells_at (bytes_taken cells_widths) a,
      ← take-add level_at (bytes_taken level_widths) a,
      ← take-add recent_at (bytes_taken recent_widths) a,
    )
    (ap (take thirteen_length) (sym (append-nil a)) ∙ take_at a [] thirteen_length size)

-- what makes bytes an area, test by test
area_tests : (a : List ℕ) → is_thirteen_area a ≡ true → (eqb (length a) thirteen_length ≡ true) × (is_level (between a level_at recent_at) ≡ true)
area_tests a is = (and-eq-true_iff (eqb (length a) thirteen_length) (is_level (between a level_at recent_at))).0 is

pub area_size : (a : List ℕ) → is_thirteen_area a ≡ true → length a ≡ thirteen_length
area_size a is = eqb-true _ _ (area_tests a is).0

pub held : (a : List ℕ) → Bytes a → is_thirteen_area a ≡ true → thirteen_area_of (state_in a) ≡ a
unfolding thirteen_area_of state_in
held a b is =
    let size = area_size a is in
    joined
    (ap (take fixed_at) (number-again a b 1 0 (omega arith)))
    (all-again (between a fixed_at latest_at) (bytes_between a b fixed_at latest_at) fixed_widths (mid_len fixed_at latest_at a (omega arith)))
    (latest-again (between a latest_at cells_at) (bytes_between a b latest_at cells_at) (mid_len latest_at cells_at a (omega arith)))
    (cells-again (between a cells_at level_at) (bytes_between a b cells_at level_at) (mid_len cells_at level_at a (omega arith)))
    (level-again (between a level_at recent_at) (bytes_between a b level_at recent_at) (mid_len level_at recent_at a (omega arith)) (area_tests a is).1)
    (recent-again (between a recent_at thirteen_length) (bytes_between a b recent_at thirteen_length) (mid_len recent_at thirteen_length a (omega arith)))
    ∙ all_parts a size
