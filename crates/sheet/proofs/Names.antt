-- Searching a sheet for a tag, and the block names. Assumes nothing.
use mathlib.Core.Path.{◌≡◌, refl, sym, ap, subst, ◌∙◌}
use mathlib.Core.Bool.{Bool, true, false, cond, and-eq-true_iff}
use mathlib.Core.List.{List, []}
use mathlib.Core.Option
use mathlib.Core.Option.{none, some}
use Rattle.std.specs.Prelude.{Option, Some, None, unwrap_or, Ok, Err}
use Prim.Native.Nat.{ℕ, zero, suc, ◌+◌, ◌*◌, ◌-◌, ◌≤◌, ◌<◌}
use native.Mathlib.Omega.{arith}
use lib.Dec.{eqb}
use lib.ListN.{length, get_or, length-take}
use borrow.Author.Tests.{eq-eqb, ne_eqb}
use Rattle.refusals.specs.declared.Refusal.{Refusal}
use Rattle.refusals.specs.declared.Refusal.TheVariants.{BadSheet}
use Rattle.sheet.specs.declared.Span.{Span}
use Rattle.sheet.specs.declared.Located.{Located}
use Rattle.rooms.specs.Rooms.{between, further}
use Rattle.sheet.specs.Sheet.{old, tag_at, length_at, offset_at, rows_listed, rows_ok, is_sheet, entries_from, among, body_in}
use Rattle.sheet.specs.Block.{find_row, find_in, Part, of_service, of_factory, first_of, good_sheets, part_of, part_bytes, place_of, located_by, located_of, block_of, block_answer}
use Rattle.sheet.proofs.Tags.{allowed-short}
use Rattle.sheet.proofs.Rows.{first_right, reach, contents}

-- ---- the search; i of n rows are passed, and searching the rest is searching all

module _ (s : List ℕ) (tag n i : ℕ) (inv : find_row (n - i) s (1 + 4 * i) tag ≡ find_in s tag) where
  more : i < n → find_row (suc (n - (i + 1))) s (1 + 4 * i) tag ≡ find_in s tag
  more h = let z : suc (n - (i + 1)) ≡ n - i = omega arith in ap (λ (k : ℕ). find_row k s (1 + 4 * i) tag) z ∙ inv

  pub hit : (a e : ℕ) → i < n → tag_at s (1 + 4 * i) ≡ tag → a ≡ offset_at s (1 + 4 * i) → e ≡ a + length_at s (1 + 4 * i) → Some (record { start = a; end = e }) ≡ find_in s tag
  unfolding find_row
  hit a e h t ea ee = rw (ee, ea) (rw (eq-eqb _ _ t) at (more h))

  pub miss : i < n → (tag_at s (1 + 4 * i) ≡ tag → ⊥) → find_row (n - (i + 1)) s (1 + 4 * (i + 1)) tag ≡ find_in s tag
  unfolding find_row
  miss h t = let z : 1 + 4 * (i + 1) ≡ 1 + 4 * i + 4 = omega arith in rw z (rw (ne_eqb _ _ t) at (more h))

  pub no_row : n ≤ i → None ≡ find_in s tag
  unfolding find_row
  no_row h = let z : 0 ≡ n - i = omega arith in ap (λ (k : ℕ). find_row k s (1 + 4 * i) tag) z ∙ inv

-- a sheet's first byte is the number of its rows
pub first_is : (s : List ℕ) → is_sheet s ≡ true → get_or s 0 0 ≡ rows_listed s
unfolding old
first_is s ok = omega (arith, (contents old s ok).marked)

pub find_start : (n : ℕ) (s : List ℕ) (tag : ℕ) → n ≡ rows_listed s → find_row (n - 0) s 1 tag ≡ find_in s tag
find_start n s tag e = let z : n - 0 ≡ rows_listed s = omega arith in ap (λ (k : ℕ). find_row k s 1 tag) z

-- ---- what is found lies in the sheet and has at most 32 bytes

pub record Inside (s : List ℕ) (a e : ℕ) : Type 0 where
  pub rises : a ≤ e
  pub ends : e ≤ length s
  pub small : e ≤ a + 32

module _ (k : ℕ) (s : List ℕ) (at low end tag a e : ℕ) (ok : rows_ok old.kinds (suc k) s at low end ≡ true) (f : find_row (suc k) s at tag ≡ Some (record { start = a; end = e })) where
  abbrev Rest : Type 0
  Rest = rows_ok old.kinds k s (at + 4) (tag_at s at + 1) (end + length_at s at) ≡ true → find_row k s (at + 4) tag ≡ Some (record { start = a; end = e }) → Inside s a e

  inside-row : Rest → (b : Bool) → eqb (tag_at s at) tag ≡ b → Inside s a e
  unfolding find_row
  inside-row rest true q =
      let r = first_right old.kinds k s at low end ok in
      let row : Span = record { start = offset_at s at; end = offset_at s at + length_at s at } in
      let found : ◌≡◌ {A = Option Span} (Some row) (Some (record { start = a; end = e })) = rw q at f in
      let w : row ≡ record { start = a; end = e } = cc in
      let ea : offset_at s at ≡ a = ap (λ (x : Span). x.start) w in
      let ee : offset_at s at + length_at s at ≡ e = ap (λ (x : Span). x.end) w in
      let end-in : end + length_at s at ≤ length s = reach old.kinds k s (at + 4) (tag_at s at + 1) (end + length_at s at) r.1 in
      record { rises = omega arith; ends = omega (arith, r.0.starts); small = omega (arith, r.0.starts, allowed-short (tag_at s at) (length_at s at) r.0.allowed) }
  inside-row rest false q = rest (first_right old.kinds k s at low end ok).1 (rw q at f)

inside : (k : ℕ) (s : List ℕ) (at low end tag a e : ℕ) → rows_ok old.kinds k s at low end ≡ true → find_row k s at tag ≡ Some (record { start = a; end = e }) → Inside s a e
unfolding find_row
inside zero s at low end tag a e ok f = let z : ◌≡◌ {A = ℕ} 0 1 = cc in absurd (omega arith)
inside (suc k) s at low end tag a e ok f =
    inside-row k s at low end tag a e ok f (λ o g. inside k s (at + 4) (tag_at s at + 1) (end + length_at s at) tag a e o g) (eqb (tag_at s at) tag) refl

pub found_inside : (s : List ℕ) (tag a e : ℕ) → is_sheet s ≡ true → find_in s tag ≡ Some (record { start = a; end = e }) → Inside s a e
found_inside s tag a e ok f = inside (rows_listed s) s 1 0 (1 + 4 * rows_listed s) tag a e (contents old s ok).rows f

-- ---- which sheet a name comes from

pub both : (s f : List ℕ) → good_sheets s f ≡ true → (is_sheet s ≡ true) × (is_sheet f ≡ true)
both s f good = (and-eq-true_iff (is_sheet s) (is_sheet f)).0 good

pub good_by : (s f : List ℕ) → block_answer s f ≡ Ok (tt {0}) → good_sheets s f ≡ true
unfolding block_answer
good_by s f ok = by-test (good_sheets s f) ok
  where
    by-test : (b : Bool) → cond b (Ok (tt {0})) (Err BadSheet) ≡ Ok (tt {0}) → b ≡ true
    by-test true h = refl
    by-test false h = let z : ◌≡◌ {A = ℕ} 0 1 = cc in absurd (omega arith)

module _ (s f : List ℕ) (tag : ℕ) where
  pub decided : good_sheets s f ≡ true → part_of s f tag ≡ first_of (find_in s tag) (find_in f tag)
  unfolding part_of
  decided good = rw good

  pub not_located : {r : Refusal} → Err r ≡ block_answer s f → Err r ≡ located_of s f tag
  unfolding located_of block_answer
  not_located {r} is = by-test (good_sheets s f) is
    where
      by-test : (b : Bool) → Err r ≡ cond b (Ok (tt {0})) (Err BadSheet) → Err r ≡ cond b (Ok (located_by (part_of s f tag))) (Err BadSheet)
      by-test true h = let z : ◌≡◌ {A = ℕ} 0 1 = cc in absurd (omega arith)
      by-test false h = let e : r ≡ BadSheet = cc in rw e

  pub located : block_answer s f ≡ Ok (tt {0}) → (x y : Option Span) → find_in s tag ≡ x → find_in f tag ≡ y → Ok (located_by (first_of x y)) ≡ located_of s f tag
  unfolding located_of
  located good x y ex ey = rw (good_by s f good, decided (good_by s f good), ex, ey)

  -- where the service sheet doesn't list the tag
  pub from_factory : block_answer s f ≡ Ok (tt {0}) → find_in s tag ≡ None → (y : Option Span) (x : Span) → find_in f tag ≡ y → x ≡ unwrap_or y (record { start = 0; end = 0 })
      → Ok (record { factory = true; start = x.start; end = x.end }) ≡ located_of s f tag
  from_factory good not_listed (Some w) x ey is = rw is (located good None (Some w) not_listed ey)
  from_factory good not_listed None x ey is = rw is (located good None None not_listed ey)

-- ---- a name is a body that is listed

-- what is found, as a body or none
abbrev found_in : Option Span → List ℕ → Option.Option (List ℕ)
found_in (Some x) s = some (between s x.start x.end)
found_in None s = none

found_by : (b : Bool) (w : Span) (x : Option Span) (s : List ℕ) (y : Option.Option (List ℕ)) → found_in x s ≡ y → found_in (cond b (Some w) x) s ≡ cond b (some (between s w.start w.end)) y
found_by true w x s y h = refl
found_by false w x s y h = h

-- it is the body that is listed, of any bytes
found_row : (n : ℕ) (s : List ℕ) (at tag : ℕ) → found_in (find_row n s at tag) s ≡ among tag (entries_from n s at)
unfolding find_row among entries_from
found_row zero s at tag = refl
found_row (suc n) s at tag =
    found_by (eqb (tag_at s at) tag) (record { start = offset_at s at; end = offset_at s at + length_at s at }) (find_row n s (at + 4) tag) s (among tag (entries_from n s (at + 4))) (found_row n s (at + 4) tag)

by_first : (s f : List ℕ) (x y : Option Span) → part_bytes (first_of x y) s f ≡ Option.get_or (found_in x s) (Option.get_or (found_in y f) [])
by_first s f (Some x) y = refl
by_first s f None (Some y) = refl
by_first s f None None = refl

pub name_is : (s f : List ℕ) (tag : ℕ) → good_sheets s f ≡ true → block_of s f tag ≡ Option.get_or (body_in s tag) (Option.get_or (body_in f tag) [])
unfolding block_of
name_is s f tag good =
    ap (λ (p : Part). part_bytes p s f) (decided s f tag good) ∙ by_first s f (find_in s tag) (find_in f tag) ∙ rw (found_row (rows_listed s) s 1 tag, found_row (rows_listed f) f 1 tag)

-- ---- the part lies in its sheet, whatever the sheets

abbrev pub InSheet : List ℕ → List ℕ → Part → Type 0
InSheet s f (of_service a e) = Inside s a e
InSheet s f (of_factory a e) = Inside f a e

module _ (s f : List ℕ) (tag : ℕ) where
  no_bytes : InSheet s f (of_factory 0 0)
  no_bytes = record { rises = omega arith; ends = omega arith; small = omega arith }

  first-in : (x y : Option Span) → find_in s tag ≡ x → find_in f tag ≡ y → good_sheets s f ≡ true → InSheet s f (first_of x y)
  first-in (Some x) y ex ey good = found_inside s tag x.start x.end (both s f good).0 ex
  first-in None (Some y) ex ey good = found_inside f tag y.start y.end (both s f good).1 ey
  first-in None None ex ey good = no_bytes

  pub part_in : InSheet s f (part_of s f tag)
  unfolding part_of
  part_in = by-test (good_sheets s f) refl
    where
      by-test : (b : Bool) → good_sheets s f ≡ b → InSheet s f (cond b (first_of (find_in s tag) (find_in f tag)) (of_factory 0 0))
      by-test true good = first-in (find_in s tag) (find_in f tag) refl refl good
      by-test false bad = no_bytes

  -- a block name has at most 32 bytes
  pub block-short : length (block_of s f tag) ≤ 32
  unfolding block_of
  block-short = go (part_of s f tag) part_in
    where
      go : (p : Part) → InSheet s f p → length (part_bytes p s f) ≤ 32
      go (of_service a e) i = simp length-take (omega (arith, i.small))
      go (of_factory a e) i = simp length-take (omega (arith, i.small))

-- ---- what is located: in the factory sheet, in the service sheet, or nothing where a sheet is bad

never : {X : Type 0} → false ≡ true → X
never h = let z : ◌≡◌ {A = ℕ} 0 1 = cc in absurd (omega arith)

module _ (s f : List ℕ) (tag : ℕ) (ps pf : ℕ × ℕ) where
  -- these bytes are the name, from this place on
  abbrev IsName : List ℕ → ℕ × ℕ → Type 0
  IsName bytes place = (bytes ≡ block_of s f tag) × (place ≡ place_of (part_of s f tag) ps pf)

  pub record Told (l : Located) : Type 0 where
    pub factory-in : l.factory ≡ true → Inside f l.start l.end
    pub factory : l.factory ≡ true → IsName (between f l.start l.end) (further l.start pf)
    pub service-in : l.factory ≡ false → Inside s l.start l.end
    pub service : l.factory ≡ false → IsName (between s l.start l.end) (further l.start ps)

  told-by : (p : Part) → part_of s f tag ≡ p → InSheet s f p → Told (located_by p)
  unfolding block_of
  told-by (of_service a e) is i = record { factory-in = never; factory = never; service-in = λ _. i; service = λ _. (rw is, rw is) }
  told-by (of_factory a e) is i = record { factory-in = λ _. i; factory = λ _. (rw is, rw is); service-in = λ h. never (sym h); service = λ h. never (sym h) }

  pub told : {l : Located} → Ok l ≡ located_of s f tag → Told l
  unfolding located_of
  told {l} is = by-test (good_sheets s f) is
    where
      by-test : (b : Bool) → Ok l ≡ cond b (Ok (located_by (part_of s f tag))) (Err BadSheet) → Told l
      by-test true h = let e : l ≡ located_by (part_of s f tag) = cc in subst Told (sym e) (told-by (part_of s f tag) refl (part_in s f tag))
      by-test false h = let z : ◌≡◌ {A = ℕ} 0 1 = cc in absurd (omega arith)

  pub told_bad : {r : Refusal} → Err r ≡ located_of s f tag → IsName [] pf
  unfolding located_of block_of part_of
  told_bad {r} is = by-test (good_sheets s f) refl is
    where
      by-test : (b : Bool) → good_sheets s f ≡ b → Err r ≡ cond b (Ok (located_by (part_of s f tag))) (Err BadSheet) → IsName [] pf
      by-test true good h = let z : ◌≡◌ {A = ℕ} 0 1 = cc in absurd (omega arith)
      by-test false bad h = let z : 0 + pf.1 ≡ pf.1 = omega arith in (rw bad, rw (bad, z))
