-- How many bytes a sheet has. Assumes nothing.
use mathlib.Core.Path.{◌≡◌, refl}
use mathlib.Core.Bool.{true}
use mathlib.Core.List.{List, [], ◌∷◌}
use Prim.Native.Nat.{ℕ, zero, suc, ◌+◌, ◌*◌, ◌≤◌}
use native.Mathlib.Omega.{arith}
use lib.ListN.{length}
use borrow.Author.Tests.{eqb-true}
use Rattle.sheet.specs.Sheet.{Entry, TagKind, Form, old, rows_of, rows_and_bodies, longest, tag_at, length_at, rows_listed, rows_ok, is_sheet_of, is_sheet}
use Rattle.sheet.proofs.Tags.{over, over_one, over_all}
use Rattle.sheet.proofs.Rows.{first_right, contents}

abbrev size : TagKind → ℕ
size k = 4 + k.most

rows_most : (ks : List TagKind) (n : ℕ) (s : List ℕ) (at low end : ℕ) → rows_ok ks n s at low end ≡ true → length s + 4 * n ≤ end + over size low ks
unfolding rows_ok
rows_most ks zero s at low end e = omega (arith, eqb-true end (length s) e)
rows_most ks (suc n) s at low end e =
    let f = first_right ks n s at low end e in
    omega (
      arith,
      rows_most ks n s (at + 4) (tag_at s at + 1) (end + length_at s at) f.1,
      over_one size (4 + length_at s at) low (tag_at s at) (length_at s at) ks (λ k h. omega arith) f.0.least f.0.allowed,
    )

all_kinds : (ks : List TagKind) → over size 0 ks ≡ rows_and_bodies ks
unfolding over
all_kinds [] = refl
all_kinds (k ∷ ks) = omega (arith, over_all size k ks, all_kinds ks)

-- a sheet has at most a row and the longest body for each kind
pub at_most : (f : Form) (s : List ℕ) → is_sheet_of f s ≡ true → length s ≤ longest f
at_most f s e =
    let c = contents f s e in
    omega (arith, rows_most f.kinds (rows_listed s) s 1 0 (1 + 4 * rows_listed s) c.rows, all_kinds f.kinds)

pub at_most_145 : (s : List ℕ) → is_sheet s ≡ true → length s ≤ 145
unfolding old
at_most_145 s e = at_most old s e

pub rows_length : (es : List Entry) (offset : ℕ) → length (rows_of offset es) ≡ 4 * length es
rows_length [] offset = refl
rows_length (e ∷ es) offset = omega (arith, rows_length es (offset + length e.body))
