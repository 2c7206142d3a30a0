-- The edits as wholes: what the steps leave is the room of the definition. Assumes nothing.
use mathlib.Core.Path.{◌≡◌, sym, ap, ◌∙◌}
use mathlib.Core.List.{List, ◌∷◌, ◌++◌, append_assoc}
use mathlib.Core.Option.{none, some}
use Prim.Native.Nat.{ℕ, ◌+◌, ◌*◌, ◌-◌, ◌^◌, ◌≤◌, ◌<◌}
use native.Mathlib.Omega.{arith}
use lib.ListN.{length, get_or, take, drop, replicate, length-append, length-replicate, length-drop}
use Rattle.sheet.specs.Sheet.{Entry, old, bodies_of, sheet_of, rows_listed, entries_from}
use Rattle.sheet.proofs.Entries.{bodies_length, sheet_size}
use Rattle.sheet_forms.proofs.Entries.{read_back}
use Rattle.sheet_forms.proofs.Forms.{old_proper}
use Rattle.sheet_steps.specs.declared.Span.{Span}
use Rattle.sheet_steps.specs.Steps.{count_below, place_in, span_in, taken_out, put_in}
use Rattle.sheet_edit.specs.Edit.{below, above, edited, sheet_after, room_with}
use Rattle.sheet_edit.proofs.Entries.{same, Parts, parts, count_is}
use Rattle.sheet_edit.proofs.Rooms.{drop_zeros, room_split, Front, room_is, sheet_is}
use Rattle.sheet_edit.proofs.Shapes.{place_is, taken-out, put-in}

-- ---- the span of a tag

module _ {room : List ℕ} {stated : ℕ} (F : Front room stated) (tag : ℕ) where
  abbrev L : List Entry
  L = F.entries

  abbrev B : List Entry
  B = below tag L

  abbrev M : List Entry
  M = same tag L

  abbrev A : List Entry
  A = above tag L

  abbrev n : ℕ
  n = length L

  three : Parts tag L
  three = parts old.kinds 0 tag L F.may

  -- how many there are, and how many bytes they have
  pub record Counts : Type 0 where
    pub rows : n ≡ length B + length M + length A
    pub bytes : length (bodies_of L) ≡ length (bodies_of B) + length (bodies_of M) + length (bodies_of A)
    pub left-rows : length (B ++ A) ≡ length B + length A
    pub left-bytes : length (bodies_of (B ++ A)) ≡ length (bodies_of B) + length (bodies_of A)

  counts : Counts
  counts = record {
    rows = ap length (sym three.whole) ∙ omega (arith, length-append B (M ++ A), length-append M A);
    bytes = ap (λ (x : List Entry). length (bodies_of x)) (sym three.whole) ∙ omega (arith, bodies_length B (M ++ A), bodies_length M A);
    left-rows = length-append B A;
    left-bytes = bodies_length B A;
  }

  -- what a removal frees
  abbrev gap : ℕ
  gap = 4 * length M + length (bodies_of M)

  kept-size : length (sheet_of old (B ++ A)) + gap ≡ stated
  kept-size = let C = counts in omega (arith, F.size, sheet_size old L, sheet_size old (B ++ A), C.rows, C.bytes, C.left-rows, C.left-bytes)

  removed-sheet : sheet_after room stated tag none ≡ sheet_of old (B ++ A)
  unfolding edited
  removed-sheet = sheet_is F tag none

  pub removed-fits : length (sheet_after room stated tag none) ≤ length room
  removed-fits = omega (arith, ap length removed-sheet, kept-size, F.reach)

  -- its rows list them
  lists : entries_from n (sheet_of old L) 1 ≡ L
  unfolding sheet_of old
  lists =
      let z : n ≡ rows_listed (sheet_of old L) = omega (arith, F.few) in
      ap (λ (k : ℕ). entries_from k (sheet_of old L) 1) z ∙ read_back old old_proper L (omega (arith, F.few))

  counted : (t : ℕ) → count_below n (sheet_of old L) 1 t ≡ length (below t L)
  counted t = count_is n (sheet_of old L) 1 t ∙ ap (λ (x : List Entry). length (below t x)) lists

  row_is : count_below n (sheet_of old L) 1 tag ≡ length B
  row_is = counted tag

  past_is : count_below n (sheet_of old L) 1 (tag + 1) ≡ length B + length M
  past_is = counted (tag + 1) ∙ ap length three.up_to ∙ length-append B M

  place_at : (C D : List Entry) → C ++ D ≡ L → place_in (sheet_of old L) n (length C) ≡ 1 + 4 * n + length (bodies_of C)
  place_at C D w =
      ap (λ (x : List Entry). place_in (sheet_of old x) (length x) (length C)) (sym w) ∙ place_is old C D ∙ ap (λ (x : List Entry). 1 + 4 * length x + length (bodies_of C)) w

  from_is : place_in (sheet_of old L) n (length B) ≡ 1 + 4 * n + length (bodies_of B)
  from_is = place_at B (M ++ A) three.whole

  to_is : place_in (sheet_of old L) n (length B + length M) ≡ 1 + 4 * n + length (bodies_of B) + length (bodies_of M)
  to_is =
      ap (λ (i : ℕ). place_in (sheet_of old L) n i) (sym (length-append B M))
      ∙ place_at (B ++ M) A (append_assoc B M A ∙ three.whole)
      ∙ omega (arith, bodies_length B M)

  -- what the code knows of its span
  pub record Spanned (k : ℕ) (p : Span) : Type 0 where
    pub count : k ≡ n
    pub row : p.row ≡ length B
    pub past : p.past ≡ length B + length M
    pub from : p.from ≡ 1 + 4 * n + length (bodies_of B)
    pub to : p.to ≡ 1 + 4 * n + length (bodies_of B) + length (bodies_of M)

  span-is : span_in (sheet_of old L) n tag ≡ record { row = length B; past = length B + length M; from = 1 + 4 * n + length (bodies_of B); to = 1 + 4 * n + length (bodies_of B) + length (bodies_of M) }
  unfolding span_in
  span-is = rw (row_is, past_is, from_is, to_is)

  pub spanned : (k : ℕ) (p : Span) → k ≡ n → p ≡ span_in (take stated room) k tag → Spanned k p
  spanned k p c h =
      let q = h ∙ ap (λ (i : ℕ). span_in (take stated room) i tag) c ∙ ap (λ (s : List ℕ). span_in s n tag) F.front_is ∙ span-is in
      record { count = c; row = ap (λ (x : Span). x.row) q; past = ap (λ (x : Span). x.past) q; from = ap (λ (x : Span). x.from) q; to = ap (λ (x : Span). x.to) q }

  module _ {k : ℕ} {p : Span} (S : Spanned k p) where
    abbrev rows : ℕ
    rows = p.past - p.row

    abbrev left : ℕ
    left = stated - (p.to - p.from) - 4 * rows

    -- the numbers of the steps, in order
    pub record Sizes : Type 0 where
      pub few : k ≤ 4
      pub reach : stated ≤ length room
      pub after : 1 + 4 * k ≤ p.from
      pub rises : p.from ≤ p.to
      pub ends : p.to ≤ stated
      pub up : p.row ≤ p.past
      pub inside : p.past ≤ k
      pub fewer : k - rows ≡ length (B ++ A)
      pub freed : p.from - 4 * rows ≡ 1 + 4 * length (B ++ A) + length (bodies_of B)
      pub room_for : p.to - p.from + 4 * rows ≤ stated
      pub left_is : left ≡ length (sheet_of old (B ++ A))
      pub left-most : left ≤ length room

    pub sizes : Sizes
    sizes =
        let C = counts in
        let s = sheet_size old L in
        let t = sheet_size old (B ++ A) in
        record {
          few = omega (arith, S.count, F.few);
          reach = F.reach;
          after = omega (arith, S.from, S.count);
          rises = omega (arith, S.from, S.to);
          ends = omega (arith, S.to, F.size, C.bytes);
          up = omega (arith, S.row, S.past);
          inside = omega (arith, S.past, S.count, C.rows);
          fewer = omega (arith, S.count, S.row, S.past, C.rows, C.left-rows);
          freed = omega (arith, S.from, S.row, S.past, C.rows, C.left-rows);
          room_for = omega (arith, S.from, S.to, S.row, S.past, F.size, C.rows, C.bytes);
          left_is = omega (arith, S.from, S.to, S.row, S.past, F.size, C.rows, C.bytes, C.left-rows, C.left-bytes);
          left-most = omega (arith, F.reach);
        }

    -- what the second step asks
    pub record Second (freed : ℕ) : Type 0 where
      pub start : 1 + 4 * (k - rows) ≤ p.from - freed
      pub within : p.from - freed ≤ stated - (p.to - p.from) - freed
      pub row_in : p.row ≤ k - rows
      pub few : k - rows ≤ 5

    pub second : (freed : ℕ) → freed ≡ 4 * rows → Second freed
    second freed e =
        let z = sizes in
        let C = counts in
        record {
          start = rw (e, z.freed, z.fewer) (omega arith);
          within = rw (e, z.freed, z.left_is, sheet_size old (B ++ A)) (omega (arith, C.left-bytes));
          row_in = rw (z.fewer, S.row) (omega (arith, C.left-rows));
          few = omega (arith, z.few);
        }

    -- ---- what the steps leave

    abbrev w : List ℕ
    w = drop stated room

    taken : taken_out room stated k p ≡ sheet_of old (B ++ A) ++ (replicate gap 0 ++ w)
    taken =
        ap (λ (s : List ℕ). taken_out s stated k p) (room_is F)
        ∙ ap (λ (i : ℕ). taken_out (sheet_of old L ++ w) stated i p) S.count
        ∙ ap (λ (x : List Entry). taken_out (sheet_of old x ++ w) stated (length x) p) (sym three.whole)
        ∙ taken-out old B M A w stated p (F.size ∙ ap (λ (x : List Entry). length (sheet_of old x)) (sym three.whole)) S.row S.past (S.from ∙ start) (S.to ∙ end)
      where
        start : 1 + 4 * n + length (bodies_of B) ≡ 1 + 4 * length (B ++ (M ++ A)) + length (bodies_of B)
        start = ap (λ (x : List Entry). 1 + 4 * length x + length (bodies_of B)) (sym three.whole)

        end : 1 + 4 * n + length (bodies_of B) + length (bodies_of M) ≡ 1 + 4 * length (B ++ (M ++ A)) + length (bodies_of B) + length (bodies_of M)
        end = ap (λ (x : List Entry). 1 + 4 * length x + length (bodies_of B) + length (bodies_of M)) (sym three.whole)

    -- what the second step asks of the first byte
    pub first_small : get_or (taken_out room stated k p) 0 0 < 255
    unfolding sheet_of old
    first_small = rw taken (omega (arith, sizes.fewer, sizes.few))

    -- ---- removed

    pub removed-size : left ≡ length (sheet_after room stated tag none)
    removed-size = sizes.left_is ∙ ap length (sym removed-sheet)

    pub removed : taken_out room stated k p ≡ room_with (sheet_after room stated tag none) stated room
    removed =
        let s : List ℕ = sheet_of old (B ++ A) in
        let z : stated - length s ≡ gap = omega (arith, kept-size) in
        let y : length s - stated ≡ 0 = omega (arith, kept-size) in
        taken
        ∙ sym (ap (λ (x : List ℕ). room_with x stated room) removed-sheet ∙ ap (λ (r : List ℕ). room_with s stated r) (room_is F) ∙ room_split s (sheet_of old L) w stated F.size ∙ rw (z, y))

    -- ---- set

    module _ (body : List ℕ) where
      abbrev now : List Entry
      now = B ++ (record { tag = tag; body = body } ∷ A)

      set-sheet : sheet_after room stated tag (some body) ≡ sheet_of old now
      unfolding edited
      set-sheet = sheet_is F tag (some body)

      now-kept : length (sheet_of old now) ≡ length (sheet_of old (B ++ A)) + (length body + 4)
      now-kept =
          let e : Entry = record { tag = tag; body = body } in
          let C = counts in
          omega (arith, length-append B (e ∷ A), bodies_length B (e ∷ A), length-append body (bodies_of A), sheet_size old now, sheet_size old (B ++ A), C.left-rows, C.left-bytes)

      pub set-size : left + length body + 4 ≡ length (sheet_after room stated tag (some body))
      set-size = omega (arith, sizes.left_is, now-kept) ∙ ap length (sym set-sheet)

      less : (now' a g b : ℕ) → a + g ≡ stated → now' ≡ a + b → (stated - now' ≡ g - b) × (now' - stated ≡ b - g)
      less now' a g b e f = (omega arith, omega arith)

      room-set : room_with (sheet_after room stated tag (some body)) stated room ≡ sheet_of old now ++ drop (length body + 4) (replicate gap 0 ++ w)
      room-set =
          let d = less (length (sheet_of old now)) (length (sheet_of old (B ++ A))) gap (length body + 4) kept-size now-kept in
          ap (λ (x : List ℕ). room_with x stated room) set-sheet
          ∙ ap (λ (r : List ℕ). room_with (sheet_of old now) stated r) (room_is F)
          ∙ room_split (sheet_of old now) (sheet_of old L) w stated F.size
          ∙ rw (d.0, d.1, drop_zeros gap (length body + 4) w)

      fits : left + length body + 4 ≤ length room → length body + 4 ≤ length (replicate gap 0 ++ w)
      fits h = omega (arith, length-append (replicate gap 0) w, length-replicate {A = ℕ} gap 0, length-drop stated room, sizes.left_is, kept-size, F.reach)

      pub set-done : left + length body + 4 ≤ length room
          → put_in (taken_out room stated k p) left (k - rows) p.row (p.from - 4 * rows) tag body ≡ room_with (sheet_after room stated tag (some body)) stated room
      set-done h =
          ap (λ (s : List ℕ). put_in s left (k - rows) p.row (p.from - 4 * rows) tag body) taken
          ∙ ap (λ (i : ℕ). put_in (sheet_of old (B ++ A) ++ (replicate gap 0 ++ w)) left i p.row (p.from - 4 * rows) tag body) sizes.fewer
          ∙ put-in old B A (replicate gap 0 ++ w) tag body left p.row (p.from - 4 * rows) sizes.left_is S.row sizes.freed (fits h)
          ∙ sym room-set

-- the new length is a number that the code can hold
pub holds_length : {left room size row : ℕ} → left ≤ room → room < 2 ^ 63 → size < 2 ^ 62 → row ≤ 4 → left + size + row < 2 ^ 64
holds_length h r s k = omega arith
