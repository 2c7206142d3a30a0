-- Lists: the newest first, and the first few of them.
-- Assumes nothing.
use Prim.Native.Nat.{ℕ, zero, suc, ◌-◌, ◌≤◌, min}
use mathlib.Core.List.{List, [], ◌∷◌, ◌++◌, map, reverse, append_assoc, append-nil, map-append, reverse-cons, reverse-append}
use mathlib.Core.Path.{◌≡◌, refl, ap, ◌∙◌, sym}
use native.Mathlib.Omega.{arith}
use lib.ListN.{length, take, drop, replicate, length-drop, length-reverse, take-append-drop}
use lib.Seq.{take-take, take-append-le, take_at, append_snoc}

module _ {A B : Type 0} (f : A → B) where
  map-rep : (n : ℕ) (x : A) → map f (replicate n x) ≡ replicate n (f x)
  map-rep zero x = refl
  map-rep (suc n) x = ap (λ l. f x ∷ l) (map-rep n x)

  pub map-drop : (n : ℕ) (l : List A) → drop n (map f l) ≡ map f (drop n l)
  map-drop zero l = refl
  map-drop (suc n) [] = refl
  map-drop (suc n) (x ∷ l) = map-drop n l

module _ {A : Type 0} where
  rep-snoc : (n : ℕ) (x : A) (l : List A) → replicate n x ++ (x ∷ l) ≡ x ∷ (replicate n x ++ l)
  rep-snoc zero x l = refl
  rep-snoc (suc n) x l = ap (λ r. x ∷ r) (rep-snoc n x l)

  reverse-rep : (n : ℕ) (x : A) → reverse (replicate n x) ≡ replicate n x
  reverse-rep zero x = refl
  reverse-rep (suc n) x =
      reverse-cons x (replicate n x) ∙ ap (λ r. r ++ (x ∷ [])) (reverse-rep n x) ∙ rep-snoc n x []
      ∙ ap (λ r. x ∷ r) (append-nil (replicate n x))

  -- of a list that is cut anyway, what lies past the cut may go first
  take_within : (n m : ℕ) (a b : List A) → n ≤ m → take n (a ++ take m b) ≡ take n (a ++ b)
  take_within n m [] b h = take-take n m b h
  take_within zero m (x ∷ a) b h = refl
  take_within (suc n) m (x ∷ a) b h = ap (λ r. x ∷ r) (take_within n m a b (omega arith))

  -- the first n of some, one more, and the first n of two lists
  pub first : (n : ℕ) (a : List A) (y : A) (r z : List A) → take n (a ++ (y ∷ take n (r ++ z))) ≡ take n ((a ++ (y ∷ r)) ++ z)
  first n a y r z =
      ap (take n) (sym (append_snoc a y (take n (r ++ z))))
      ∙ take_within n n (a ++ (y ∷ [])) (r ++ z) (omega arith)
      ∙ ap (take n) (append_snoc a y (r ++ z))
      ∙ ap (take n) (sym (append_assoc a (y ∷ r) z))

  -- the newest n of a list turned round are its last n
  pub last-first : (n : ℕ) (l z : List A) → take (min n (length l)) (take n (reverse l ++ z)) ≡ reverse (drop (length l - n) l)
  last-first n l z =
      let j = min n (length l) in
      let d = length l - n in
      take-take j n (reverse l ++ z) (omega arith)
      ∙ take-append-le j (reverse l) z (omega (arith, length-reverse l))
      ∙ ap (λ x. take j (reverse x)) (sym (take-append-drop d l))
      ∙ ap (take j) (reverse-append (take d l) (drop d l))
      ∙ take_at (reverse (drop d l)) (reverse (take d l)) j (omega (arith, length-reverse (drop d l), length-drop d l))

-- the newest first: one more, and then k of a kind
pub newest : {A B : Type 0} (f : A → B) (a : List A) (x c : A) (k : ℕ)
    → reverse (map f (a ++ (x ∷ replicate k c))) ≡ replicate k (f c) ++ (f x ∷ reverse (map f a))
newest f a x c k =
    ap reverse (map-append f a (x ∷ replicate k c) ∙ ap (λ r. map f a ++ (f x ∷ r)) (map-rep f k c))
    ∙ reverse-append (map f a) (f x ∷ replicate k (f c))
    ∙ ap (λ r. r ++ reverse (map f a)) (reverse-cons (f x) (replicate k (f c)))
    ∙ ap (λ r. (r ++ (f x ∷ [])) ++ reverse (map f a)) (reverse-rep k (f c))
    ∙ append_assoc (replicate k (f c)) (f x ∷ []) (reverse (map f a))
