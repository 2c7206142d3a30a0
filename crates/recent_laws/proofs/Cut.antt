-- Cutting milliseconds into pieces of one size: more of them, one current for long, the last pieces; and nothing is lost.
-- Assumes nothing.
use Prim.Native.Nat.{ℕ, zero, suc, ◌+◌, ◌-◌, ◌*◌, ◌/◌, ◌≤◌}
use mathlib.Core.List.{List, ◌∷◌, ◌++◌, append_assoc}
use mathlib.Core.Path.{◌≡◌, refl, ap, ◌∙◌, sym}
use native.Mathlib.Omega.{arith}
use native.Mathlib.Nat.{mul-suc, mul-add}
use lib.IntN.{ℤ}
use lib.ListN.{length, take, drop, replicate, length-append, length-drop, length-replicate, replicate-append-replicate, take-append-drop}
use lib.Seq.{take-append-le, drop-append-le, take_at, drop_at, drop-drop, take-add}
use Rattle.recent_laws.specs.Minute.{cut, seconds, in_one}
use Rattle.recent_laws.specs.Promises.{NothingLost}

pub cut_length : (u n : ℕ) (l : List ℤ) → length (cut u n l) ≡ n
unfolding cut
cut_length u zero l = refl
cut_length u (suc n) l = ap suc (cut_length u n (drop u l))

-- what comes later changes no whole piece
pub cut_front : (u n : ℕ) (l x : List ℤ) → u * n ≤ length l → cut u n (l ++ x) ≡ cut u n l
unfolding cut
cut_front u zero l x h = refl
cut_front u (suc n) l x h =
    let one : u ≤ length l = omega (arith, mul-suc u n) in
    let rest : u * n ≤ length (drop u l) = omega (arith, mul-suc u n, length-drop u l) in
    ap (λ a. a ∷ cut u n (drop u (l ++ x))) (take-append-le u l x one)
    ∙ ap (λ a. take u l ∷ cut u n a) (drop-append-le u l x one)
    ∙ ap (λ a. take u l ∷ a) (cut_front u n (drop u l) x rest)

-- n pieces, and then m
cut_more : (u n m : ℕ) (l : List ℤ) → cut u (n + m) l ≡ cut u n l ++ cut u m (drop (u * n) l)
unfolding cut
cut_more u zero m l =
    let e : 0 + m ≡ m = omega arith in
    let z : u * 0 ≡ 0 = omega arith in
    ap (λ k. cut u k l) e ∙ ap (λ k. cut u m (drop k l)) (sym z)
cut_more u (suc n) m l =
    let e : u + u * n ≡ u * suc n = omega (arith, mul-suc u n) in
    let s : suc n + m ≡ suc (n + m) = omega arith in
    ap (λ k. cut u k l) s
    ∙ ap (λ a. take u l ∷ a) (cut_more u n m (drop u l))
    ∙ ap (λ a. take u l ∷ (cut u n (drop u l) ++ cut u m a)) (drop-drop (u * n) u l ∙ ap (λ k. drop k l) e)

-- all but the first d pieces
pub cut_last : (u d j : ℕ) (l : List ℤ) → drop d (cut u (d + j) l) ≡ cut u j (drop (u * d) l)
cut_last u d j l = ap (drop d) (cut_more u d j l) ∙ drop_at (cut u d l) (cut u j (drop (u * d) l)) d (cut_length u d l)

-- the first of one current for long, and the rest
take_rep : (u k : ℕ) (a : ℤ) → take u (replicate (u + k) a) ≡ replicate u a
take_rep u k a =
    ap (take u) (sym (replicate-append-replicate u k a)) ∙ take_at (replicate u a) (replicate k a) u (length-replicate u a)

drop_rep : (u k : ℕ) (a : ℤ) → drop u (replicate (u + k) a) ≡ replicate k a
drop_rep u k a =
    ap (drop u) (sym (replicate-append-replicate u k a)) ∙ drop_at (replicate u a) (replicate k a) u (length-replicate u a)

cut_rep : (u n r : ℕ) (a : ℤ) → cut u n (replicate (u * n + r) a) ≡ replicate n (replicate u a)
unfolding cut
cut_rep u zero r a = refl
cut_rep u (suc n) r a =
    let e : u * suc n + r ≡ u + (u * n + r) = omega (arith, mul-suc u n) in
    ap (λ k. take u (replicate k a) ∷ cut u n (drop u (replicate k a))) e
    ∙ ap (λ x. x ∷ cut u n (drop u (replicate (u + (u * n + r)) a))) (take_rep u (u * n + r) a)
    ∙ ap (λ x. replicate u a ∷ cut u n x) (drop_rep u (u * n + r) a)
    ∙ ap (λ x. replicate u a ∷ x) (cut_rep u n r a)

-- a begun piece g, and a current for long enough: g is made whole, then k pieces, then a rest of m
module _ (u k m : ℕ) (a : ℤ) (g : List ℤ) (h : length g ≤ u) where
  whole : List ℤ
  whole = g ++ replicate (u - length g) a

  whole_length : length whole ≡ u
  unfolding whole
  whole_length = length-append g (replicate (u - length g) a) ∙ omega (arith, length-replicate (u - length g) a)

  parts : g ++ replicate (u - length g + (u * k + m)) a ≡ whole ++ replicate (u * k + m) a
  unfolding whole
  parts =
      ap (λ x. g ++ x) (sym (replicate-append-replicate (u - length g) (u * k + m) a))
      ∙ sym (append_assoc g (replicate (u - length g) a) (replicate (u * k + m) a))

  cut-begun : cut u (suc k) (g ++ replicate (u - length g + (u * k + m)) a) ≡ whole ∷ replicate k (replicate u a)
  unfolding cut
  cut-begun =
      ap (λ x. take u x ∷ cut u k (drop u x)) parts
      ∙ ap (λ x. x ∷ cut u k (drop u (whole ++ replicate (u * k + m) a))) (take_at whole (replicate (u * k + m) a) u whole_length)
      ∙ ap (λ x. whole ∷ cut u k x) (drop_at whole (replicate (u * k + m) a) u whole_length)
      ∙ ap (λ x. whole ∷ x) (cut_rep u k m a)

  drop-begun : drop (u * suc k) (g ++ replicate (u - length g + (u * k + m)) a) ≡ replicate m a
  drop-begun =
      let e : u * suc k ≡ u + u * k = omega (arith, mul-suc u k) in
      ap (drop (u * suc k)) parts
      ∙ ap (λ n. drop n (whole ++ replicate (u * k + m) a)) e
      ∙ sym (drop-drop (u * k) u (whole ++ replicate (u * k + m) a))
      ∙ ap (drop (u * k)) (drop_at whole (replicate (u * k + m) a) u whole_length)
      ∙ drop_rep (u * k) m a

-- of milliseconds whose first n pieces are whole and whose rest is begun
module _ (u n k m : ℕ) (a : ℤ) (l : List ℤ) (hn : u * n ≤ length l) (hg : length (drop (u * n) l) ≤ u) where
  pub cut-late : (e : ℕ) → e ≡ u - length (drop (u * n) l) + (u * k + m)
      → cut u (n + suc k) (l ++ replicate e a)
      ≡ cut u n l ++ ((drop (u * n) l ++ replicate (u - length (drop (u * n) l)) a) ∷ replicate k (replicate u a))
  unfolding whole
  cut-late e h =
      cut_more u n (suc k) (l ++ replicate e a)
      ∙ ap (λ x. x ++ cut u (suc k) (drop (u * n) (l ++ replicate e a))) (cut_front u n l (replicate e a) hn)
      ∙ ap (λ x. cut u n l ++ cut u (suc k) x) (drop-append-le (u * n) l (replicate e a) hn)
      ∙ ap (λ x. cut u n l ++ cut u (suc k) (drop (u * n) l ++ replicate x a)) h
      ∙ ap (λ x. cut u n l ++ x) (cut-begun u k m a (drop (u * n) l) hg)

  pub drop-late : (e : ℕ) → e ≡ u - length (drop (u * n) l) + (u * k + m) → drop (u * (n + suc k)) (l ++ replicate e a) ≡ replicate m a
  drop-late e h =
      ap (λ x. drop x (l ++ replicate e a)) (mul-add u n (suc k))
      ∙ sym (drop-drop (u * suc k) (u * n) (l ++ replicate e a))
      ∙ ap (drop (u * suc k)) (drop-append-le (u * n) l (replicate e a) hn)
      ∙ ap (λ x. drop (u * suc k) (drop (u * n) l ++ replicate x a)) h
      ∙ drop-begun u k m a (drop (u * n) l) hg

-- the pieces in one
pub in_one_cut : (u j : ℕ) (l : List ℤ) → in_one (cut u j l) ≡ take (u * j) l
unfolding in_one cut
in_one_cut u zero l = let z : u * 0 ≡ 0 = omega arith in ap (λ k. take k l) (sym z)
in_one_cut u (suc j) l =
    let e : u + u * j ≡ u * suc j = omega (arith, mul-suc u j) in
    ap (λ x. take u l ++ x) (in_one_cut u j (drop u l)) ∙ sym (take-add u (u * j) l) ∙ ap (λ k. take k l) e

-- the seconds are so many
pub seconds_length : (l : List ℤ) → length (seconds l) ≡ length l / 1000
unfolding seconds
seconds_length l = cut_length 1000 (length l / 1000) l

pub nothing_lost : NothingLost
unfolding seconds
nothing_lost l =
    let n = length l / 1000 in
    ap (λ k. in_one (cut 1000 n l) ++ drop (1000 * k) l) (cut_length 1000 n l)
    ∙ ap (λ x. x ++ drop (1000 * n) l) (in_one_cut 1000 n l)
    ∙ take-append-drop (1000 * n) l
