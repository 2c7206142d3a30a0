-- The laws of reading names: what plain reading and the escape rule find after 32 bytes, what they say of the bytes, and what their number says. Assumes nothing.
use mathlib.Core.Path.{◌≡◌, refl, sym, ap, ◌∙◌, subst}
use mathlib.Core.Bool.{Bool, true, false, cond}
use mathlib.Core.List.{List, [], ◌∷◌, ◌++◌, append_assoc, append-nil}
use Prim.Native.Nat.{ℕ, suc, ◌+◌, ◌-◌, ◌≤◌, ◌<◌}
use native.Mathlib.Omega.{arith}
use lib.Dec.{eqb, leb}
use lib.ListN.{length, drop, get_or, length-append, length-drop}
use lib.Seq.{drop-cons}
use borrow.Author.Tests.{eqb-true, ne_eqb, lt-leb}
use Rattle.names.specs.Names.{marked, escape_byte, escape, Name, bad, ended, stopped, push, read_plain, read_escaped}
use Rattle.names.specs.declared.Ending.TheVariants.{Stopped, Ended, Bad}
use Rattle.names.specs.Steps.{number_of, ending_of}

-- ---- a byte at a time

-- after 32 bytes one byte more is refused
module _ (at n last : ℕ) (h : 32 ≤ n) where
  number-over : (b : ℕ) (r : Name) → last ≡ number_of (push b r) at n last
  number-over b bad = refl
  number-over b (ended name) = rw (lt-leb (n + suc (length name)) 32 (omega arith))
  number-over b (stopped name rest) = rw (lt-leb (n + suc (length name)) 32 (omega arith))

  handed-over : (b : ℕ) (s : List ℕ) (p : Bool) → last ≡ number_of (cond p (push b (read_plain s)) bad) at n last
  handed-over b s true = number-over b (read_plain s)
  handed-over b s false = refl

  escaped-over : (s : List ℕ) → last ≡ number_of (read_escaped s) at n last
  escaped-over [] = refl
  escaped-over (b ∷ s) = handed-over b s (marked b)

  plain_over : (b : ℕ) (s : List ℕ) (p : Bool) → last ≡ number_of (cond p (read_escaped s) (push b (read_plain s))) at n last
  plain_over b s true = escaped-over s
  plain_over b s false = number-over b (read_plain s)

module _ (k : List ℕ) (at n : ℕ) (h : at < length k) where
  pub at-over : 32 ≤ n → (get_or k at 0 ≡ 0x2F → ⊥) → length k ≡ number_of (read_plain (drop at k)) at n (length k)
  at-over l x = rw (drop-cons k at 0 h, ne_eqb _ 0x2F x) (plain_over at n (length k) l (get_or k at 0) (drop (suc at) k) (eqb (get_or k at 0) 0x5C))

-- ---- what is read says what the bytes are

abbrev pub Is : List ℕ → Name → Type 0
Is k bad = Unit
Is k (ended name) = k ≡ escape name
Is k (stopped name rest) = k ≡ escape name ++ (0x2F ∷ rest)

pushed : (b : ℕ) (s : List ℕ) (r : Name) → Is s r → Is (escape_byte b ++ s) (push b r)
pushed b s bad i = tt
pushed b s (ended name) i = ap (λ (l : List ℕ). escape_byte b ++ l) i
pushed b s (stopped name rest) i = rw append_assoc (ap (λ (l : List ℕ). escape_byte b ++ l) i)

plain_step : (b : ℕ) (s : List ℕ) → Is s (read_plain s) → Is (0x5C ∷ s) (read_escaped s) → (p q : Bool) → eqb b 0x2F ≡ p → eqb b 0x5C ≡ q → Is (b ∷ s) (read_plain (b ∷ s))
plain_step b s i j true q e f = rw e (rw (eqb-true b 0x2F e))
plain_step b s i j false true e f = simp (e, f) (subst (λ (x : ℕ). Is (x ∷ s) (read_escaped s)) (sym (eqb-true b 0x5C f)) j)
plain_step b s i j false false e f = simp (e, f) (simp (e, f) at (pushed b s (read_plain s) i))

escaped_step : (b : ℕ) (s : List ℕ) → Is s (read_plain s) → (p : Bool) → marked b ≡ p → Is (0x5C ∷ b ∷ s) (read_escaped (b ∷ s))
escaped_step b s i true e = rw e (rw e at (pushed b s (read_plain s) i))
escaped_step b s i false e = rw e tt

mutual
  pub plain_is : (k : List ℕ) → Is k (read_plain k)
  plain_is [] = refl
  plain_is (b ∷ s) = plain_step b s (plain_is s) (escaped_is s) (eqb b 0x2F) (eqb b 0x5C) refl refl

  pub escaped_is : (k : List ℕ) → Is (0x5C ∷ k) (read_escaped k)
  escaped_is [] = tt
  escaped_is (b ∷ s) = escaped_step b s (plain_is s) (marked b) refl

-- ---- what the number says

-- a 2F that ends a name stands below the length
stroke_within : (k name rest : List ℕ) (from : ℕ) → drop from k ≡ escape name ++ (0x2F ∷ rest) → from + length (escape name) < length k
stroke_within k name rest from i = omega (arith, simp (length-append, length-drop) at (ap length i))

module _ (k : List ℕ) (from number : ℕ) (told : number ≡ number_of (read_plain (drop from k)) from 0 (length k)) where
  pub number-bad : number ≡ length k → Bad ≡ ending_of (read_plain (drop from k)) from 0
  number-bad h = go (read_plain (drop from k)) (plain_is (drop from k)) told
    where
      over : (n : ℕ) (p : Bool) → number ≡ cond p (length k + 1 + n) (length k) → Bad ≡ cond p (Ended n) Bad
      over n true e = absurd (omega arith)
      over n false e = refl

      below : (i : ℕ) (p : Bool) → i < length k → number ≡ cond p i (length k) → Bad ≡ cond p (Stopped i) Bad
      below i true l e = absurd (omega arith)
      below i false l e = refl

      go : (r : Name) → Is (drop from k) r → number ≡ number_of r from 0 (length k) → Bad ≡ ending_of r from 0
      go bad i e = refl
      go (ended name) i e = over _ (leb (0 + length name) 32) e
      go (stopped name rest) i e = below _ (leb (0 + length name) 32) (stroke_within k name rest from i) e

  pub number-ended : length k < number → Ended (number - length k - 1) ≡ ending_of (read_plain (drop from k)) from 0
  number-ended h = go (read_plain (drop from k)) (plain_is (drop from k)) told
    where
      over : (n : ℕ) (p : Bool) → number ≡ cond p (length k + 1 + n) (length k) → Ended (number - length k - 1) ≡ cond p (Ended n) Bad
      over n true e = let z : number - length k - 1 ≡ n = omega arith in ap Ended z
      over n false e = absurd (omega arith)

      below : (i : ℕ) (p : Bool) → i < length k → number ≡ cond p i (length k) → number ≤ length k
      below i true l e = omega arith
      below i false l e = omega arith

      go : (r : Name) → Is (drop from k) r → number ≡ number_of r from 0 (length k) → Ended (number - length k - 1) ≡ ending_of r from 0
      go bad i e = absurd (omega arith)
      go (ended name) i e = over _ (leb (0 + length name) 32) e
      go (stopped name rest) i e = absurd (omega (arith, below _ (leb (0 + length name) 32) (stroke_within k name rest from i) e))

-- ---- what is escaped is read back

abbrev pub pushes : List ℕ → Name → Name
pushes [] r = r
pushes (b ∷ m) r = push b (pushes m r)

read_one : (b : ℕ) (t : List ℕ) → read_plain (escape_byte b ++ t) ≡ push b (read_plain t)
read_one b t = go (eqb b 0x2F) (eqb b 0x5C) refl refl
  where
    go : (p q : Bool) → eqb b 0x2F ≡ p → eqb b 0x5C ≡ q → read_plain (escape_byte b ++ t) ≡ push b (read_plain t)
    go true q e f = rw (eqb-true b 0x2F e)
    go false true e f = rw (eqb-true b 0x5C f)
    go false false e f = simp (e, f)

read_over : (m t : List ℕ) → read_plain (escape m ++ t) ≡ pushes m (read_plain t)
read_over [] t = refl
read_over (b ∷ m) t = rw append_assoc (read_one b (escape m ++ t) ∙ ap (push b) (read_over m t))

pushes_ended : (m : List ℕ) → pushes m (ended []) ≡ ended m
pushes_ended [] = refl
pushes_ended (b ∷ m) = ap (push b) (pushes_ended m)

pushes_stopped : (m t : List ℕ) → pushes m (stopped [] t) ≡ stopped m t
pushes_stopped [] t = refl
pushes_stopped (b ∷ m) t = ap (push b) (pushes_stopped m t)

pub read_ended : (m : List ℕ) → read_plain (escape m) ≡ ended m
read_ended m = ap read_plain (sym (append-nil (escape m))) ∙ read_over m [] ∙ pushes_ended m

pub read_stopped : (m t : List ℕ) → read_plain (escape m ++ (0x2F ∷ t)) ≡ stopped m t
read_stopped m t = read_over m (0x2F ∷ t) ∙ pushes_stopped m t
