-- Entries one after another: their rows, their bodies and the bytes of their sheet. Assumes nothing.
use mathlib.Core.Path.{◌≡◌, refl, sym, ap, ◌∙◌}
use mathlib.Core.List.{List, [], ◌∷◌, ◌++◌, append_assoc}
use Prim.Native.Nat.{ℕ, ◌+◌, ◌*◌}
use native.Mathlib.Nat.{add-zero}
use native.Mathlib.Omega.{arith}
use lib.ListN.{length, length-append}
use Rattle.sheet.specs.Sheet.{Entry, Form, rows_of, bodies_of, contents_of, sheet_of}
use Rattle.sheet.proofs.Lengths.{rows_length}

pub bodies_append : (es ds : List Entry) → bodies_of (es ++ ds) ≡ bodies_of es ++ bodies_of ds
bodies_append [] ds = refl
bodies_append (e ∷ es) ds = rw (bodies_append es ds) (sym (append_assoc e.body (bodies_of es) (bodies_of ds)))

pub bodies_length : (es ds : List Entry) → length (bodies_of (es ++ ds)) ≡ length (bodies_of es) + length (bodies_of ds)
bodies_length es ds = ap length (bodies_append es ds) ∙ length-append (bodies_of es) (bodies_of ds)

pub rows_append : (es ds : List Entry) (end : ℕ) → rows_of end (es ++ ds) ≡ rows_of end es ++ rows_of (end + length (bodies_of es)) ds
rows_append [] ds end = rw add-zero
rows_append (e ∷ es) ds end =
    let n : end + length (bodies_of (e ∷ es)) ≡ end + length e.body + length (bodies_of es) = omega (arith, length-append e.body (bodies_of es)) in
    rw (n, rows_append es ds (end + length e.body))

pub sheet_size : (f : Form) (es : List Entry) → length (sheet_of f es) ≡ 1 + 4 * length es + length (bodies_of es)
unfolding sheet_of
sheet_size f es = omega (arith, length-append (contents_of f es) (bodies_of es), rows_length es (1 + 4 * length es))
