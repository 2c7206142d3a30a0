-- What stands where, once n whole seconds and the one just full stand before the old ones.
-- Assumes nothing.
use borrow.Rule.Slice.PartMut.{put_mid}
use mathlib.Core.List.{append-nil, append_assoc}
use Rattle.std.proofs.Common.{drop, length-set, ◌≡◌, ℕ, ◌+◌, ◌-◌, ◌<◌, ◌≤◌, List, [], ◌∷◌, ◌++◌, length, take, set, replicate, sym, ap, ◌∙◌, add-one, arith, length-append, take-suc-set, take_at}
use lib.ListN.{length-replicate, replicate-append-replicate}
use lib.ListN.{drop_of_length-le}
use lib.Seq.{drop-drop, drop_at, take-add, take-append-le}

-- a list of one number begins with fewer of it
fewer : (m size a : ℕ) → m ≤ size → take m (replicate size a) ≡ replicate m a
fewer m size a h =
    let e : size ≡ m + (size - m) = omega arith in
    ap (λ j. take m (replicate j a)) e ∙ ap (take m) (sym (replicate-append-replicate m (size - m) a))
    ∙ take_at (replicate m a) (replicate (size - m) a) m (length-replicate m a)

module _ (n whole full : ℕ) (old : List ℕ) where
  -- the new totals, before they are cut
  abbrev pub laid : List ℕ
  laid = replicate n whole ++ (full ∷ old)

  -- all places are whole seconds
  pub filled : (size : ℕ) → size ≤ n → replicate size whole ≡ take size laid
  filled size h =
      sym (take-append-le size (replicate n whole) (full ∷ old) (omega (arith, length-replicate n whole)) ∙ fewer size n whole h)

  -- the full one stands at place n, after whole seconds
  front : List ℕ
  front = replicate n whole ++ (full ∷ [])

  front_length : length front ≡ n + 1
  unfolding front
  front_length = length-append (replicate n whole) (full ∷ []) ∙ omega (arith, length-replicate n whole)

  laid_is : laid ≡ front ++ old
  unfolding front
  laid_is = sym (append_assoc (replicate n whole) (full ∷ []) old)

  placed : n < 60 → take (n + 1) (set (replicate 60 whole) n full) ≡ front
  unfolding front
  placed h =
      ap (λ j. take j (set (replicate 60 whole) n full)) (add-one n)
      ∙ take-suc-set (replicate 60 whole) n full (omega (arith, length-replicate 60 whole))
      ∙ ap (λ l. l ++ (full ∷ [])) (fewer n 60 whole (omega arith))

  -- and the old ones follow, as many as there is room for
  pub followed : n < 60 → (part : List ℕ) → part ≡ take (59 - n) old
      → put_mid (n + 1) (60 - (n + 1)) (set (replicate 60 whole) n full) part ≡ take 60 laid
  followed h part e =
      let room = set (replicate 60 whole) n full in
      let size : length room ≡ 60 = length-set (replicate 60 whole) n full ∙ length-replicate 60 whole in
      let none : drop (60 - (n + 1)) (drop (n + 1) room) ≡ [] = drop-drop (60 - (n + 1)) (n + 1) room ∙ drop_of_length-le room (omega arith) in
      let sixty : 60 ≡ n + 1 + (59 - n) = omega arith in
      ap (λ x. take (n + 1) room ++ (part ++ x)) none
      ∙ ap (λ x. take (n + 1) room ++ x) (append-nil part ∙ e)
      ∙ ap (λ x. x ++ take (59 - n) old) (placed h)
      ∙ sym (ap (take 60) laid_is ∙ ap (λ k. take k (front ++ old)) sixty ∙ take-add (n + 1) (59 - n) (front ++ old)
      ∙ ap (λ x. x ++ take (59 - n) (drop (n + 1) (front ++ old))) (take_at front old (n + 1) front_length)
      ∙ ap (λ x. front ++ take (59 - n) x) (drop_at front old (n + 1) front_length))
