-- The test whether bytes are a capture, case by case, and what a capture's bytes then are. Assumes nothing.
use mathlib.Core.Path.{◌≡◌, refl, sym, ap, ◌∙◌}
use mathlib.Core.Bool.{Bool, true, false, ◌&&◌, and-false, and-eq-true_iff, true≢false}
use mathlib.Core.List.{List, ◌∷◌, ◌++◌, append_assoc}
use Prim.Native.Nat.{ℕ, zero, suc, ◌+◌, ◌-◌, ◌*◌, ◌%◌, ◌^◌, ◌≤◌, ◌<◌}
use native.Mathlib.Numerals.{add-one}
use native.Mathlib.Omega.{arith}
use lib.Dec.{leb, eqb}
use lib.ListN.{length, get_or, take, drop, length-append, length-take, length-drop, take-append-drop}
use borrow.Author.Tests.{le-leb, lt-leb, eq-eqb, ne_eqb, leb-true, eqb-true}
use Rattle.std.proofs.lemmas.List.{get_or-drop, get_or_append_left, drop_at, drop-drop}
use Rattle.capture.specs.Capture.{fits, capture_most, count_in, mark_in, length_in, place_in, rows_fit, is_capture}

module _ (s : List ℕ) where
  pub place-start : 2 * count_in s + 1 ≡ place_in s 0
  unfolding place_in
  place-start = refl

  pub place-more : (row : ℕ) → place_in s (row + 1) ≡ place_in s row + length_in s row
  unfolding place_in
  place-more row = rw add-one

  -- a row's mark and length stand where a shift finds them
  abbrev pub InRow : ℕ → Type 0
  InRow row = (get_or s (row * 2 ^ 1 % 2 ^ 64 + 1) 0 ≡ mark_in s row) × (get_or s (row * 2 ^ 1 % 2 ^ 64 + 2) 0 ≡ length_in s row)

  pub in_row : (row : ℕ) → row ≤ 255 → InRow row
  in_row row h = let e : row * 2 ^ 1 % 2 ^ 64 ≡ 2 * row = omega arith in rw e (refl, refl)

  pub rows_start : rows_fit s 0 ≡ true
  unfolding rows_fit
  rows_start = refl

  pub rows_more : (row : ℕ) → rows_fit s row ≡ true → fits (mark_in s row) (length_in s row) ≡ true → rows_fit s (row + 1) ≡ true
  unfolding rows_fit
  rows_more row h f = rw add-one (simp (h, f))

  rows_misfit : (row : ℕ) → fits (mark_in s row) (length_in s row) ≡ false → rows_fit s (row + 1) ≡ false
  unfolding rows_fit
  rows_misfit row f = rw add-one (simp (f, and-false))

  -- rows that don't fit stay so with more rows
  pub rows-never : (row more : ℕ) → rows_fit s row ≡ false → rows_fit s (more + row) ≡ false
  unfolding rows_fit
  rows-never row zero h = let e : 0 + row ≡ row = omega arith in rw e h
  rows-never row (suc more) h = let e : suc more + row ≡ suc (more + row) = omega arith in rw e (rw (rows-never row more h))

  pub short : length s < 2 * count_in s + 1 → false ≡ is_capture s
  unfolding is_capture place_in
  short h = simp (lt-leb _ _ h, and-false)

  pub unfit : (row : ℕ) → row < count_in s → fits (mark_in s row) (length_in s row) ≡ false → false ≡ is_capture s
  unfolding is_capture
  unfit row h e =
      let split : count_in s ≡ count_in s - (row + 1) + (row + 1) = omega arith in
      let f : rows_fit s (count_in s) ≡ false = ap (rows_fit s) split ∙ rows-never (row + 1) (count_in s - (row + 1)) (rows_misfit row e) in
      simp (f, and-false)

  pub told : count_in s ≤ 255 → 2 * count_in s + 1 ≤ length s → rows_fit s (count_in s) ≡ true → eqb (place_in s (count_in s)) (length s) ≡ is_capture s
  unfolding is_capture
  told b h e = simp (le-leb _ _ b, ← place-start, le-leb _ _ h, e)

-- two tests of the same are the same
same_test : (a b c d : ℕ) → (a ≡ b → c ≡ d) → (c ≡ d → a ≡ b) → eqb a b ≡ eqb c d
same_test a b c d f g = tested (eqb a b) refl
  where
    tested : (v : Bool) → eqb a b ≡ v → eqb a b ≡ eqb c d
    tested true e = e ∙ sym (eq-eqb c d (f (eqb-true a b e)))
    tested false e = e ∙ sym (ne_eqb c d (λ h. true≢false (sym (eq-eqb a b (g h)) ∙ e)))

-- some rows are passed, and fit; what is left of the table and the bodies stand after them
pub record Passed (s bodies left : List ℕ) (row total : ℕ) : Type 0 where
  pub byte : count_in s ≤ 255
  pub size : 2 * count_in s + 1 + length bodies ≡ length s
  pub many : 2 * row + length left ≡ 2 * count_in s
  pub stands : left ++ bodies ≡ drop (2 * row + 1) s
  pub place : place_in s row ≡ 2 * count_in s + 1 + total
  pub most : total ≤ 37 * row
  pub fit : rows_fit s row ≡ true

pub none_passed : {s rest table bodies left : List ℕ} {n mid : ℕ} → s ≡ n ∷ rest → n ≤ 255 → mid ≡ 2 * n → mid ≤ length rest → table ≡ take mid rest → bodies ≡ drop mid rest → left ≡ table → Passed s bodies left 0 0
none_passed {s} {rest} {table} {bodies} {left} {n} {mid} cut b two h front back same =
    let count : count_in s ≡ n = ap (λ (l : List ℕ). get_or l 0 0) cut in
    let long : length s ≡ suc (length rest) = ap length cut in
    record {
      byte = omega arith;
      size = omega (arith, ap length back, length-drop mid rest);
      many = omega (arith, ap length (same ∙ front), length-take mid rest);
      stands = rw (same, front, back, cut) (take-append-drop mid rest);
      place = omega (arith, place-start s);
      most = omega arith;
      fit = rows_start s;
    }

module _ {s bodies left : List ℕ} {row total : ℕ} (h : Passed s bodies left row total) (pair rest : List ℕ) (cut : left ≡ pair ++ rest) (two : length pair ≡ 2) where
  stands-so : pair ++ (rest ++ bodies) ≡ drop (2 * row + 1) s
  stands-so = sym (append_assoc pair rest bodies) ∙ ap (λ (l : List ℕ). l ++ bodies) (sym cut) ∙ h.stands

  shows : (i : ℕ) → i < 2 → get_or pair i 0 ≡ get_or s (2 * row + 1 + i) 0
  shows i b = sym (get_or_append_left pair (rest ++ bodies) 0 i (omega arith)) ∙ ap (λ (l : List ℕ). get_or l i 0) stands-so ∙ get_or-drop (2 * row + 1) s i 0

  -- the next two bytes are the next row
  pub next_row : (row < count_in s) × (get_or pair 0 0 ≡ mark_in s row) × (get_or pair 1 0 ≡ length_in s row)
  next_row =
      let below : row < count_in s = omega (arith, h.many, ap length cut, length-append pair rest) in
      let first : 2 * row + 1 + 0 ≡ 2 * row + 1 = omega arith in
      let second : 2 * row + 1 + 1 ≡ 2 * row + 2 = omega arith in
      (below, shows 0 (omega arith) ∙ ap (λ (k : ℕ). get_or s k 0) first, shows 1 (omega arith) ∙ ap (λ (k : ℕ). get_or s k 0) second)

  pub one_more : fits (get_or pair 0 0) (get_or pair 1 0) ≡ true → Passed s bodies rest (row + 1) (total + get_or pair 1 0)
  one_more f =
      let n = next_row in
      let l = (and-eq-true_iff (leb (get_or pair 0 0) 1) (leb (get_or pair 1 0) 37)).0 f in
      let next : 2 * row + 1 + 2 ≡ 2 * (row + 1) + 1 = omega arith in
      record {
        byte = h.byte;
        size = h.size;
        many = omega (arith, h.many, ap length cut, length-append pair rest);
        stands = sym (drop_at pair (rest ++ bodies) 2 two) ∙ ap (drop 2) stands-so ∙ drop-drop 2 (2 * row + 1) s ∙ ap (λ (k : ℕ). drop k s) next;
        place = omega (arith, h.place, place-more s row, n.2);
        most = omega (arith, h.most, leb-true (get_or pair 1 0) 37 l.1);
        fit = rows_more s row h.fit (rw (sym n.1, sym n.2) f);
      }

  pub misfit : fits (get_or pair 0 0) (get_or pair 1 0) ≡ false → false ≡ is_capture s
  misfit f = let n = next_row in unfit s row n.0 (rw (sym n.1, sym n.2) f)

-- with the table passed, the bodies' bytes tell
pub passed_all : {s bodies left : List ℕ} {row total : ℕ} → Passed s bodies left row total → length left < 2 → eqb total (length bodies) ≡ is_capture s
passed_all {s} {bodies} {left} {row} {total} h b =
    let last : row ≡ count_in s = omega (arith, h.many) in
    let end : place_in s (count_in s) ≡ 2 * count_in s + 1 + total = ap (place_in s) (sym last) ∙ h.place in
    same_test total (length bodies) (place_in s (count_in s)) (length s) (λ e. omega (arith, end, h.size, e)) (λ e. omega (arith, end, h.size, e))
    ∙ told s h.byte (omega (arith, h.size)) (ap (rows_fit s) (sym last) ∙ h.fit)

-- what the bytes of a capture are
pub record Facts (s : List ℕ) : Type 0 where
  pub byte : count_in s ≤ 255
  pub table : 2 * count_in s + 1 ≤ length s
  pub rows : rows_fit s (count_in s) ≡ true
  pub end : place_in s (count_in s) ≡ length s

pub facts : (s : List ℕ) → is_capture s ≡ true → Facts s
unfolding is_capture
facts s e =
    let b = (and-eq-true_iff (leb (count_in s) 255 && leb (place_in s 0) (length s) && rows_fit s (count_in s)) (eqb (place_in s (count_in s)) (length s))).0 e in
    let c = (and-eq-true_iff (leb (count_in s) 255 && leb (place_in s 0) (length s)) (rows_fit s (count_in s))).0 b.0 in
    let d = (and-eq-true_iff (leb (count_in s) 255) (leb (place_in s 0) (length s))).0 c.0 in
    let t = leb-true (place_in s 0) (length s) d.1 in
    record { byte = leb-true (count_in s) 255 d.0; table = rw (← place-start s) at t; rows = c.1; end = eqb-true (place_in s (count_in s)) (length s) b.1 }

pub is : (s : List ℕ) → Facts s → is_capture s ≡ true
is s f = sym (told s f.byte f.table f.rows) ∙ eq-eqb _ _ f.end

-- rows of up to 37 bytes each
place_most : (s : List ℕ) (row : ℕ) → rows_fit s row ≡ true → place_in s row ≤ 2 * count_in s + 1 + 37 * row
unfolding place_in rows_fit
place_most s zero e = omega arith
place_most s (suc row) e =
    let a = (and-eq-true_iff (rows_fit s row) (fits (mark_in s row) (length_in s row))).0 e in
    let b = (and-eq-true_iff (leb (mark_in s row) 1) (leb (length_in s row) 37)).0 a.1 in
    omega (arith, place_most s row a.0, leb-true (length_in s row) 37 b.1)

-- no capture is longer
pub longest : (s : List ℕ) → is_capture s ≡ true → length s ≤ capture_most
longest s e = let f = facts s e in omega (arith, place_most s (count_in s) f.rows)
