-- The laws of a name that a stroke ends, and of one that none ends. Assumes nothing.
use mathlib.Core.Path.{◌≡◌, refl, sym, ap, ◌∙◌}
use mathlib.Core.Bool.{Bool, true, false, cond}
use mathlib.Core.List.{List, [], ◌∷◌, ◌++◌, append_assoc}
use Prim.Native.Nat.{ℕ, ◌+◌, ◌≤◌, ◌<◌}
use native.Mathlib.Omega.{arith}
use lib.Dec.{leb}
use lib.ListN.{length, drop, length-append, length-drop}
use lib.Seq.{drop-drop, drop_at}
use borrow.Author.Tests.{leb-true}
use Rattle.names.specs.Names.{escape, Name, bad, ended, stopped, read_plain}
use Rattle.std.specs.Prelude.{Some, None}
use Rattle.names.specs.Steps.{stroke_of}
use Rattle.names.proofs.Reading.{Is, plain_is}

-- ---- where a name ends

pub record Named (k : List ℕ) (from b : ℕ) : Type 0 where
  pub name : List ℕ
  pub rest : List ℕ
  pub reads : read_plain (drop from k) ≡ stopped name rest
  pub short : length name ≤ 32
  pub place : b ≡ from + length (escape name)
  pub next : drop (b + 1) k ≡ rest
  pub within : b < length k

abbrev pub Unnamed : Name → Type 0
Unnamed bad = Unit
Unnamed (ended name) = Unit
Unnamed (stopped name rest) = leb (length name) 32 ≡ false

past : (k name rest : List ℕ) (from : ℕ) → drop from k ≡ escape name ++ (0x2F ∷ rest) → drop (from + length (escape name) + 1) k ≡ rest
past k name rest from e =
    let z : from + length (escape name) + 1 ≡ from + (length (escape name) + 1) = omega arith in
    let n : length (escape name ++ (0x2F ∷ [])) ≡ length (escape name) + 1 = length-append (escape name) (0x2F ∷ []) in
    ap (λ (i : ℕ). drop i k) z ∙ sym (drop-drop (length (escape name) + 1) from k) ∙ ap (drop (length (escape name) + 1)) (e ∙ sym (append_assoc (escape name) (0x2F ∷ []) rest)) ∙ drop_at (escape name ++ (0x2F ∷ [])) rest _ n

pub named : (k : List ℕ) (from b : ℕ) → Some b ≡ stroke_of (read_plain (drop from k)) from → Named k from b
named k from b e = go (read_plain (drop from k)) (plain_is (drop from k)) refl e
  where
    go : (r : Name) → Is (drop from k) r → read_plain (drop from k) ≡ r → Some b ≡ stroke_of r from → Named k from b
    go bad i f e = let z : ◌≡◌ {A = ℕ} 0 1 = cc in absurd (omega arith)
    go (ended name) i f e = let z : ◌≡◌ {A = ℕ} 0 1 = cc in absurd (omega arith)
    go (stopped name rest) i f e = short (leb (length name) 32) refl
      where
        short : (t : Bool) → leb (length name) 32 ≡ t → Named k from b
        short true g =
            let e' : Some b ≡ Some (from + length (escape name)) = rw g at e in
            let p : b ≡ from + length (escape name) = cc in
            record {
              name = name;
              rest = rest;
              reads = f;
              short = leb-true _ _ g;
              place = p;
              next = ap (λ (j : ℕ). drop (j + 1) k) p ∙ past k name rest from i;
              within = omega (arith, simp (length-append, length-drop) at (ap length i));
            }
        short false g = let e' : Some b ≡ None = rw g at e in let z : ◌≡◌ {A = ℕ} 0 1 = cc in absurd (omega arith)

pub unnamed : (r : Name) (from : ℕ) → None ≡ stroke_of r from → Unnamed r
unnamed bad from e = tt
unnamed (ended name) from e = tt
unnamed (stopped name rest) from e = short (leb (length name) 32) _ e
  where
    short : (t : Bool) (n : ℕ) → None ≡ cond t (Some n) None → t ≡ false
    short false n e = refl
    short true n e = cc
