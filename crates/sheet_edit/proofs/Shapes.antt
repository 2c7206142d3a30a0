-- What each step makes of a room that holds a sheet, of any form. Assumes nothing.
use mathlib.Core.Path.{◌≡◌, refl, sym, ap, ◌∙◌}
use mathlib.Core.List.{List, [], ◌∷◌, ◌++◌, append_assoc, append-nil}
use Prim.Native.Nat.{ℕ, suc, ◌+◌, ◌*◌, ◌-◌, ◌/◌, ◌%◌, ◌≤◌}
use native.Mathlib.Omega.{arith}
use lib.ListN.{length, get_or, set, drop, replicate, length-append, length-drop, replicate-append-replicate}
use lib.Seq.{drop-drop, get_or-append-add}
use Rattle.moves.specs.Moves.{cut_out, inserted}
use Rattle.moves.proofs.Parts.{cut_parts, insert_parts}
use Rattle.sheet.specs.Sheet.{Entry, Form, rows_of, bodies_of, sheet_of, offset_at}
use Rattle.sheet.proofs.Entries.{rows_append, bodies_append, bodies_length, sheet_size}
use Rattle.sheet.proofs.Lengths.{rows_length}
use Rattle.sheet_forms.proofs.Entries.{row}
use Rattle.sheet_steps.specs.declared.Span.{Span}
use Rattle.sheet_steps.specs.Steps.{place_in, laid_rows, laid, taken_out, put_in}
use Rattle.sheet_steps.proofs.Walk.{in_row, past_rows}

-- ---- rows with any offsets get the right ones

data Lines : List Entry → List ℕ → Type 0 where
  none : Lines [] []
  line : {e : Entry} {es : List Entry} {R : List ℕ} (a b : ℕ) → Lines es R → Lines (e ∷ es) (e.tag ∷ length e.body ∷ a ∷ b ∷ R)

lines_of : (o : ℕ) (es : List Entry) → Lines es (rows_of o es)
lines_of o [] = none
lines_of o (e ∷ es) = line (o % 256) (o / 256) (lines_of (o + length e.body) es)

lines_append : {B C : List Entry} {R Q : List ℕ} → Lines B R → Lines C Q → Lines (B ++ C) (R ++ Q)
lines_append none L = L
lines_append (line a b K) L = line a b (lines_append K L)

set_row : (p r : List ℕ) (t l a b x y : ℕ) → set (set (p ++ (t ∷ l ∷ a ∷ b ∷ r)) (length p + 2) x) (length p + 3) y ≡ p ++ (t ∷ l ∷ x ∷ y ∷ r)
set_row [] r t l a b x y = refl
set_row (h ∷ p) r t l a b x y =
    let z₂ : suc (length p) + 2 ≡ suc (length p + 2) = omega arith in
    let z₃ : suc (length p) + 3 ≡ suc (length p + 3) = omega arith in
    rw (z₂, z₃) (ap (λ (k : List ℕ). h ∷ k) (set_row p r t l a b x y))

lay_none : (s : List ℕ) (at end : ℕ) → laid_rows 0 s at end ≡ s
unfolding laid_rows
lay_none s at end = refl

lay_step : (n : ℕ) (s : List ℕ) (at end : ℕ) → laid_rows (suc n) s at end ≡ laid_rows n (set (set s (at + 2) (end % 256)) (at + 3) (end / 256)) (at + 4) (end + get_or s (at + 1) 0)
unfolding laid_rows
lay_step n s at end = refl

lay_lines : {es : List Entry} {R : List ℕ} → Lines es R → (p r : List ℕ) (end : ℕ) → laid_rows (length es) (p ++ (R ++ r)) (length p) end ≡ p ++ (rows_of end es ++ r)
lay_lines none p r end = lay_none (p ++ r) (length p) end
lay_lines (line {e = e} {es = es} {R = R} a b K) p r end =
    let t : ℕ = e.tag in
    let l : ℕ = length e.body in
    let four : List ℕ = t ∷ l ∷ end % 256 ∷ end / 256 ∷ [] in
    let q : List ℕ = p ++ four in
    let g : get_or (p ++ (t ∷ l ∷ a ∷ b ∷ (R ++ r))) (length p + 1) 0 ≡ l = get_or-append-add p (t ∷ l ∷ a ∷ b ∷ (R ++ r)) 1 0 in
    let h : length q ≡ length p + 4 = length-append p four in
    let w : p ++ (four ++ (R ++ r)) ≡ q ++ (R ++ r) = sym (append_assoc p four (R ++ r)) in
    lay_step (length es) (p ++ (t ∷ l ∷ a ∷ b ∷ (R ++ r))) (length p) end
    ∙ rw (g, set_row p (R ++ r) t l a b (end % 256) (end / 256), w, ← h) (lay_lines K q r (end + l) ∙ append_assoc p four (rows_of (end + l) es ++ r))

-- ---- where a body starts

module _ (f : Form) (B : List Entry) where
  pub place_is : (C : List Entry) → place_in (sheet_of f (B ++ C)) (length (B ++ C)) (length B) ≡ 1 + 4 * length (B ++ C) + length (bodies_of B)
  unfolding sheet_of
  place_is [] =
      let n : length (B ++ []) ≡ length B = ap length (append-nil B) in
      let b : length (bodies_of (B ++ [])) ≡ length (bodies_of B) = ap (λ (x : List Entry). length (bodies_of x)) (append-nil B) in
      sym (past_rows (sheet_of f (B ++ [])) (length (B ++ [])) (length B) (omega arith)) ∙ omega (arith, sheet_size f (B ++ []))
  place_is (e ∷ C) =
      let es : List Entry = B ++ (e ∷ C) in
      let n : length es ≡ length B + suc (length C) = length-append B (e ∷ C) in
      let o : ℕ = 1 + 4 * length es in
      let u : ℕ = o + length (bodies_of B) in
      let p : List ℕ = (f.mark + length es) ∷ rows_of o B in
      let k : length p ≡ 1 + 4 * length B = omega (arith, rows_length B o) in
      let w : sheet_of f es ≡ p ++ (rows_of u (e ∷ C) ++ bodies_of es) = rw (rows_append B (e ∷ C) o) (append_assoc p (rows_of u (e ∷ C)) (bodies_of es)) in
      let at : offset_at (sheet_of f es) (1 + 4 * length B) ≡ u = rw (← k) (row (sheet_of f es) p (bodies_of es) u e C w).starts in
      sym (in_row (sheet_of f es) (length es) (length B) u (omega arith) (sym at))

-- ---- regrouping

sheet_is : (f : Form) (es : List Entry) (w : List ℕ) → sheet_of f es ++ w ≡ (f.mark + length es) ∷ ((rows_of (1 + 4 * length es) es ++ bodies_of es) ++ w)
unfolding sheet_of
sheet_is f es w = refl

regroup₃ : (a b c d e g w : List ℕ) → ((a ++ (b ++ c)) ++ (d ++ (e ++ g))) ++ w ≡ (a ++ (b ++ (c ++ d))) ++ (e ++ (g ++ w))
regroup₃ a b c d e g w = simp append_assoc

regroup₂ : (a b c d e w : List ℕ) → a ++ ((b ++ c) ++ (d ++ (e ++ w))) ≡ (a ++ (b ++ c)) ++ ((d ++ e) ++ w)
regroup₂ a b c d e w = simp append_assoc

-- ---- a span goes

module _ (f : Form) (B M A : List Entry) (w : List ℕ) where
  abbrev es : List Entry
  es = B ++ (M ++ A)

  abbrev n : ℕ
  n = length es

  abbrev o : ℕ
  o = 1 + 4 * n

  abbrev oM : ℕ
  oM = o + length (bodies_of B)

  abbrev oA : ℕ
  oA = oM + length (bodies_of M)

  abbrev head : List ℕ
  head = (f.mark + n) ∷ (rows_of o B ++ (rows_of oM M ++ (rows_of oA A ++ bodies_of B)))

  abbrev later : List ℕ
  later = rows_of oA A ++ (bodies_of B ++ bodies_of A)

  n-is : n ≡ length B + length M + length A
  n-is = omega (arith, length-append B (M ++ A), length-append M A)

  bytes-is : length (bodies_of es) ≡ length (bodies_of B) + length (bodies_of M) + length (bodies_of A)
  bytes-is = omega (arith, bodies_length B (M ++ A), bodies_length M A)

  head-is : length head ≡ oM
  head-is =
      omega (
        arith,
        n-is,
        rows_length B o,
        rows_length M oM,
        rows_length A oA,
        length-append (rows_of o B) (rows_of oM M ++ (rows_of oA A ++ bodies_of B)),
        length-append (rows_of oM M) (rows_of oA A ++ bodies_of B),
        length-append (rows_of oA A) (bodies_of B),
      )

  shape : sheet_of f es ++ w ≡ head ++ (bodies_of M ++ (bodies_of A ++ w))
  shape =
      sheet_is f es w
      ∙ rw (rows_append B (M ++ A) o, rows_append M A oM, bodies_append B (M ++ A), bodies_append M A)
      (ap (λ (x : List ℕ). (f.mark + n) ∷ x) (regroup₃ (rows_of o B) (rows_of oM M) (rows_of oA A) (bodies_of B) (bodies_of M) (bodies_of A) w))

  module _ (size : ℕ) (p : Span) (hl : size ≡ length (sheet_of f es)) (hr : p.row ≡ length B) (hp : p.past ≡ length B + length M) (hf : p.from ≡ oM) (ht : p.to ≡ oA) where
    abbrev by : ℕ
    by = p.to - p.from

    abbrev m : ℕ
    m = p.past - p.row

    abbrev rest : List ℕ
    rest = replicate by 0 ++ w

    cut-bodies : cut_out (sheet_of f es ++ w) size p.from by ≡ ((f.mark + n) ∷ rows_of o B) ++ (rows_of oM M ++ (later ++ rest))
    cut-bodies =
        let k = sheet_size f es in
        let kb = bytes-is in
        let kh = head-is in
        ap (λ (s : List ℕ). cut_out s size p.from by) shape
        ∙ cut_parts head (bodies_of M) (bodies_of A) w size p.from by (omega arith) (omega arith) (omega arith)
        ∙ simp append_assoc

    cut-rows : cut_out (((f.mark + n) ∷ rows_of o B) ++ (rows_of oM M ++ (later ++ rest))) (size - by) (1 + 4 * p.row) (4 * m) ≡ ((f.mark + n) ∷ rows_of o B) ++ (later ++ (replicate (4 * m) 0 ++ rest))
    cut-rows =
        let k = sheet_size f es in
        let kb = bytes-is in
        let kn = n-is in
        let rB = rows_length B o in
        let rM = rows_length M oM in
        let rA = rows_length A oA in
        let l₁ = length-append (rows_of oA A) (bodies_of B ++ bodies_of A) in
        let l₂ = length-append (bodies_of B) (bodies_of A) in
        cut_parts ((f.mark + n) ∷ rows_of o B) (rows_of oM M) later rest (size - by) (1 + 4 * p.row) (4 * m) (omega arith) (omega arith) (omega arith)

    abbrev g : ℕ
    g = f.mark + length (B ++ A)

    abbrev tail : List ℕ
    tail = (bodies_of B ++ bodies_of A) ++ (replicate (4 * m) 0 ++ rest)

    fewer : n - m ≡ length (B ++ A)
    fewer = omega (arith, n-is, length-append B A)

    first_byte : set (((f.mark + n) ∷ rows_of o B) ++ (later ++ (replicate (4 * m) 0 ++ rest))) 0 (get_or (sheet_of f es ++ w) 0 0 - m) ≡ (g ∷ []) ++ ((rows_of o B ++ rows_of oA A) ++ tail)
    unfolding sheet_of
    first_byte =
        let z : f.mark + n - m ≡ g = omega (arith, n-is, length-append B A) in
        rw z (simp append_assoc)

    new-offsets : laid (n - m) ((g ∷ []) ++ ((rows_of o B ++ rows_of oA A) ++ tail)) ≡ (g ∷ []) ++ (rows_of (1 + 4 * length (B ++ A)) (B ++ A) ++ tail)
    new-offsets = rw fewer (lay_lines (lines_append (lines_of o B) (lines_of oA A)) (g ∷ []) tail (1 + 4 * length (B ++ A)))

    ended : (g ∷ []) ++ (rows_of (1 + 4 * length (B ++ A)) (B ++ A) ++ tail) ≡ sheet_of f (B ++ A) ++ (replicate (4 * length M + length (bodies_of M)) 0 ++ w)
    ended =
        let zm : m ≡ length M = omega arith in
        let zb : by ≡ length (bodies_of M) = omega arith in
        let r : List ℕ = rows_of (1 + 4 * length (B ++ A)) (B ++ A) in
        let zs₁ : List ℕ = replicate (4 * length M) 0 in
        let zs₂ : List ℕ = replicate (length (bodies_of M)) 0 in
        rw (sheet_is f (B ++ A) (replicate (4 * length M + length (bodies_of M)) 0 ++ w), zm, zb, bodies_append B A, ← replicate-append-replicate {A = ℕ} (4 * length M) (length (bodies_of M)) 0)
        (ap (λ (x : List ℕ). g ∷ x) (regroup₂ r (bodies_of B) (bodies_of A) zs₁ zs₂ w))

    pub taken-out : taken_out (sheet_of f es ++ w) size n p ≡ sheet_of f (B ++ A) ++ (replicate (4 * length M + length (bodies_of M)) 0 ++ w)
    unfolding taken_out
    taken-out =
        ap (λ (s : List ℕ). laid (n - m) (set (cut_out s (size - by) (1 + 4 * p.row) (4 * m)) 0 (get_or (sheet_of f es ++ w) 0 0 - m))) cut-bodies
        ∙ ap (λ (s : List ℕ). laid (n - m) (set s 0 (get_or (sheet_of f es ++ w) 0 0 - m))) cut-rows
        ∙ ap (λ (s : List ℕ). laid (n - m) s) first_byte
        ∙ new-offsets
        ∙ ended

-- ---- a body and its row come in

regroup₄ : (a b c d w : List ℕ) → ((a ++ b) ++ (c ++ d)) ++ w ≡ (a ++ (b ++ c)) ++ (d ++ w)
regroup₄ a b c d w = simp append_assoc

regroup₅ : (a b c x d w : List ℕ) → (a ++ (b ++ c)) ++ (x ++ (d ++ w)) ≡ a ++ ((b ++ (c ++ (x ++ d))) ++ w)
regroup₅ a b c x d w = simp append_assoc

regroup₆ : (a l b c w : List ℕ) → a ++ (l ++ ((b ++ c) ++ w)) ≡ (a ++ (l ++ b)) ++ (c ++ w)
regroup₆ a l b c w = simp append_assoc

module _ (f : Form) (B A : List Entry) (w : List ℕ) (tag : ℕ) (body : List ℕ) where
  abbrev was : List Entry
  was = B ++ A

  abbrev e : Entry
  e = record { tag = tag; body = body }

  abbrev was_n : ℕ
  was_n = length was

  abbrev o₁ : ℕ
  o₁ = 1 + 4 * was_n

  abbrev o₂ : ℕ
  o₂ = o₁ + length (bodies_of B)

  abbrev front₁ : List ℕ
  front₁ = (f.mark + was_n) ∷ (rows_of o₁ B ++ (rows_of o₂ A ++ bodies_of B))

  abbrev bodies : List ℕ
  bodies = bodies_of B ++ (body ++ bodies_of A)

  abbrev row_line : List ℕ
  row_line = tag ∷ length body ∷ 0 ∷ 0 ∷ []

  was-is : was_n ≡ length B + length A
  was-is = length-append B A

  was-bytes : length (bodies_of was) ≡ length (bodies_of B) + length (bodies_of A)
  was-bytes = bodies_length B A

  front_is : length front₁ ≡ o₂
  front_is =
      omega (
        arith,
        was-is,
        rows_length B o₁,
        rows_length A o₂,
        length-append (rows_of o₁ B) (rows_of o₂ A ++ bodies_of B),
        length-append (rows_of o₂ A) (bodies_of B),
      )

  was-shape : sheet_of f was ++ w ≡ front₁ ++ (bodies_of A ++ w)
  was-shape =
      sheet_is f was w
      ∙ rw (rows_append B A o₁, bodies_append B A) (ap (λ (x : List ℕ). (f.mark + was_n) ∷ x) (regroup₄ (rows_of o₁ B) (rows_of o₂ A) (bodies_of B) (bodies_of A) w))

  module _ (size row from : ℕ) (hl : size ≡ length (sheet_of f was)) (hr : row ≡ length B) (hf : from ≡ o₂) (fits : length body + 4 ≤ length w) where
    abbrev w₁ : List ℕ
    w₁ = drop (length body) w

    abbrev w₂ : List ℕ
    w₂ = drop 4 w₁

    put-body : inserted (sheet_of f was ++ w) size from body ≡ ((f.mark + was_n) ∷ rows_of o₁ B) ++ ((rows_of o₂ A ++ bodies) ++ w₁)
    put-body =
        let k = sheet_size f was in
        let kb = was-bytes in
        let kh = front_is in
        ap (λ (s : List ℕ). inserted s size from body) was-shape
        ∙ insert_parts front₁ (bodies_of A) w body size from (omega arith) (omega arith) (omega arith)
        ∙ ap (λ (x : List ℕ). (f.mark + was_n) ∷ x) (regroup₅ (rows_of o₁ B) (rows_of o₂ A) (bodies_of B) body (bodies_of A) w₁)

    put-row : inserted (((f.mark + was_n) ∷ rows_of o₁ B) ++ ((rows_of o₂ A ++ bodies) ++ w₁)) (size + length body) (1 + 4 * row) row_line ≡ ((f.mark + was_n) ∷ rows_of o₁ B) ++ (row_line ++ ((rows_of o₂ A ++ bodies) ++ w₂))
    put-row =
        let k = sheet_size f was in
        let kb = was-bytes in
        let kn = was-is in
        let rB = rows_length B o₁ in
        let rA = rows_length A o₂ in
        let l₁ = length-append (rows_of o₂ A) bodies in
        let l₂ = length-append (bodies_of B) (body ++ bodies_of A) in
        let l₃ = length-append body (bodies_of A) in
        let l₄ = length-drop (length body) w in
        insert_parts ((f.mark + was_n) ∷ rows_of o₁ B) (rows_of o₂ A ++ bodies) w₁ row_line (size + length body) (1 + 4 * row) (omega arith) (omega arith) (omega arith)

    abbrev now : List Entry
    now = B ++ (e ∷ A)

    one_more : was_n + 1 ≡ length now
    one_more = omega (arith, was-is, length-append B (e ∷ A))

    abbrev first : ℕ
    first = f.mark + length now

    put_first : set (((f.mark + was_n) ∷ rows_of o₁ B) ++ (row_line ++ ((rows_of o₂ A ++ bodies) ++ w₂))) 0 (get_or (sheet_of f was ++ w) 0 0 + 1) ≡ (first ∷ []) ++ ((rows_of o₁ B ++ (row_line ++ rows_of o₂ A)) ++ (bodies ++ w₂))
    unfolding sheet_of
    put_first =
        let z : f.mark + was_n + 1 ≡ first = omega (arith, one_more) in
        rw z (ap (λ (x : List ℕ). first ∷ x) (regroup₆ (rows_of o₁ B) row_line (rows_of o₂ A) bodies w₂))

    put-offsets : laid (was_n + 1) ((first ∷ []) ++ ((rows_of o₁ B ++ (row_line ++ rows_of o₂ A)) ++ (bodies ++ w₂))) ≡ (first ∷ []) ++ (rows_of (1 + 4 * length now) now ++ (bodies ++ w₂))
    put-offsets = rw one_more (lay_lines (lines_append (lines_of o₁ B) (line {e = e} 0 0 (lines_of o₂ A))) (first ∷ []) (bodies ++ w₂) (1 + 4 * length now))

    put-end : (first ∷ []) ++ (rows_of (1 + 4 * length now) now ++ (bodies ++ w₂)) ≡ sheet_of f now ++ drop (length body + 4) w
    put-end =
        rw (sheet_is f now (drop (length body + 4) w), bodies_append B (e ∷ A), ← drop-drop 4 (length body) w)
        (ap (λ (x : List ℕ). first ∷ x) (sym (append_assoc (rows_of (1 + 4 * length now) now) bodies w₂)))

    pub put-in : put_in (sheet_of f was ++ w) size was_n row from tag body ≡ sheet_of f now ++ drop (length body + 4) w
    unfolding put_in
    put-in =
        ap (λ (s : List ℕ). laid (was_n + 1) (set (inserted s (size + length body) (1 + 4 * row) row_line) 0 (get_or (sheet_of f was ++ w) 0 0 + 1))) put-body
        ∙ ap (λ (s : List ℕ). laid (was_n + 1) (set s 0 (get_or (sheet_of f was ++ w) 0 0 + 1))) put-row
        ∙ ap (λ (s : List ℕ). laid (was_n + 1) s) put_first
        ∙ put-offsets
        ∙ put-end
