-- The laws of reading words: what four digits stand for is written as those digits. Assumes nothing.
use mathlib.Core.Path.{◌≡◌, refl, sym, ap, ◌∙◌}
use mathlib.Core.Bool.{Bool, true, false, cond, ◌&&◌, and-eq-true_iff}
use mathlib.Core.List.{List, [], ◌∷◌, ◌++◌, append-nil}
use Prim.Native.Nat.{ℕ, ◌+◌, ◌*◌, ◌-◌, ◌/◌, ◌%◌, ◌^◌, ◌≤◌, ◌<◌}
use native.Mathlib.Nat.{add-zero}
use native.Mathlib.Omega.{arith}
use lib.Dec.{eqb, leb}
use lib.ListN.{length, get_or, drop, length-drop, drop_of_length-le}
use lib.Seq.{drop-cons, get_or-drop, drop-drop}
use borrow.Author.Tests.{le-ltb, lt-ltb, le-leb, lt-leb, eq-eqb, ne_eqb, eqb-true, leb-true}
use Rattle.std.specs.Prelude.{Some, None}
use Rattle.key.specs.declared.Read.{Read}
use Rattle.key.specs.Key.{hex_digit, hex_word, is_digit, digit_value, digit_of, is_word, word_of, digits_word, is_words, words_of}

-- ---- what the code reads at a place

-- a byte within two bounds
pub between : (lo hi c : ℕ) → leb lo c && leb c hi ≡ true → (lo ≤ c) × (c ≤ hi)
between lo hi c t = let b = (and-eq-true_iff (leb lo c) (leb c hi)).0 t in (leb-true _ _ b.0, leb-true _ _ b.1)

-- a digit, and the number that it stands for
pub record Digit (c n : ℕ) : Type 0 where
  pub is : is_digit c ≡ true
  pub value : n ≡ digit_value c
  pub below : n < 16

digit_below : (c : ℕ) → is_digit c ≡ true → digit_value c < 16
digit_below c h = go (leb 0x30 c && leb c 0x39) (leb 0x61 c && leb c 0x66) refl refl
  where
    go : (p q : Bool) → leb 0x30 c && leb c 0x39 ≡ p → leb 0x61 c && leb c 0x66 ≡ q → digit_value c < 16
    go true q e f =
        let b = between 0x30 0x39 c e in
        rw (le-leb c 0x39 b.1) (omega arith)
    go false true e f =
        let b = between 0x61 0x66 c f in
        rw (lt-leb c 0x39 (omega arith)) (omega arith)
    go false false e f =
        let h' : false ≡ true = rw (e, f) at h in
        let z : ◌≡◌ {A = ℕ} 0 1 = cc in
        absurd (omega arith)

pub digit_read : (c n : ℕ) → Some n ≡ digit_of c → Digit c n
digit_read c n e = go (is_digit c) refl
  where
    go : (t : Bool) → is_digit c ≡ t → Digit c n
    go true f =
        let e' : Some n ≡ Some (digit_value c) = rw f at e in
        let v : n ≡ digit_value c = cc in
        record { is = f; value = v; below = omega (arith, digit_below c f) }
    go false f = let e' : Some n ≡ None = rw f at e in let z : ◌≡◌ {A = ℕ} 0 1 = cc in absurd (omega arith)

-- no choice of a value
none_chosen : {A : Type 0} (t : Bool) (x : A) → None ≡ cond t (Some x) None → t ≡ false
none_chosen true x e = cc
none_chosen false x e = refl

module _ (k : List ℕ) (at : ℕ) where
  pub no_first : None ≡ digit_of (get_or k at 0) → None ≡ word_of (drop at k)
  unfolding word_of is_word
  no_first e = rw (get_or-drop at k 0 0, add-zero, none_chosen (is_digit (get_or k at 0)) _ e)

  module _ {a : ℕ} (da : Digit (get_or k at 0) a) where
    pub no_second : None ≡ digit_of (get_or k (at + 1) 0) → None ≡ word_of (drop at k)
    unfolding word_of is_word
    no_second e = rw (get_or-drop at k 0 0, get_or-drop at k 1 0, add-zero, da.is, none_chosen (is_digit (get_or k (at + 1) 0)) _ e)

    module _ {b : ℕ} (db : Digit (get_or k (at + 1) 0) b) where
      pub no_third : None ≡ digit_of (get_or k (at + 2) 0) → None ≡ word_of (drop at k)
      unfolding word_of is_word
      no_third e = rw (get_or-drop at k 0 0, get_or-drop at k 1 0, get_or-drop at k 2 0, add-zero, da.is, db.is, none_chosen (is_digit (get_or k (at + 2) 0)) _ e)

      module _ {c : ℕ} (dc : Digit (get_or k (at + 2) 0) c) where
        pub no_fourth : None ≡ digit_of (get_or k (at + 3) 0) → None ≡ word_of (drop at k)
        unfolding word_of is_word
        no_fourth e = rw (get_or-drop at k 0 0, get_or-drop at k 1 0, get_or-drop at k 2 0, get_or-drop at k 3 0, add-zero, da.is, db.is, dc.is, none_chosen (is_digit (get_or k (at + 3) 0)) _ e)

        pub word_read : {d : ℕ} → Digit (get_or k (at + 3) 0) d → Some (a * 2 ^ 12 % 2 ^ 16 + b * 2 ^ 8 % 2 ^ 16 + c * 2 ^ 4 % 2 ^ 16 + d) ≡ word_of (drop at k)
        unfolding word_of is_word digits_word
        word_read {d} dd =
            let e : a * 2 ^ 12 % 2 ^ 16 + b * 2 ^ 8 % 2 ^ 16 + c * 2 ^ 4 % 2 ^ 16 ≡ a * 4096 + b * 256 + c * 16 = omega (arith, da.below, db.below, dc.below) in
            rw (get_or-drop at k 0 0, get_or-drop at k 1 0, get_or-drop at k 2 0, get_or-drop at k 3 0, add-zero, da.is, db.is, dc.is, dd.is, e, da.value, db.value, dc.value, dd.value)

-- a word, and the number that it stands for
word_told : (s : List ℕ) (n : ℕ) → Some n ≡ word_of s → (is_word s ≡ true) × (n ≡ digits_word s)
unfolding word_of
word_told s n e = go (is_word s) refl
  where
    go : (t : Bool) → is_word s ≡ t → (is_word s ≡ true) × (n ≡ digits_word s)
    go true f = let e' : Some n ≡ Some (digits_word s) = rw f at e in (f, cc)
    go false f = let e' : Some n ≡ None = rw f at e in let z : ◌≡◌ {A = ℕ} 0 1 = cc in absurd (omega arith)

word_none : (s : List ℕ) → None ≡ word_of s → is_word s ≡ false
unfolding word_of
word_none s e = none_chosen (is_word s) _ e

pub not_nine : (k : List ℕ) (at : ℕ) → (length k - at ≡ 9 → ⊥) → None ≡ words_of (drop at k)
unfolding words_of is_words
not_nine k at h = rw (length-drop at k, ne_eqb _ _ h)

module _ (k : List ℕ) (at : ℕ) (nine : length k - at ≡ 9) where
  pub no_date : None ≡ word_of (drop at k) → None ≡ words_of (drop at k)
  unfolding words_of is_words
  no_date e = rw (length-drop at k, eq-eqb _ _ nine, word_none _ e)

  module _ {x : ℕ} (date : Some x ≡ word_of (drop at k)) where
    pub no_stroke : (get_or k (at + 4) 0 ≡ 0x2F → ⊥) → None ≡ words_of (drop at k)
    unfolding words_of is_words
    no_stroke h = rw (length-drop at k, eq-eqb _ _ nine, (word_told _ _ date).0, get_or-drop at k 4 0, ne_eqb _ _ h)

    pub no_serial : get_or k (at + 4) 0 ≡ 0x2F → None ≡ word_of (drop (at + 5) k) → None ≡ words_of (drop at k)
    unfolding words_of is_words
    no_serial h e = rw (length-drop at k, eq-eqb _ _ nine, (word_told _ _ date).0, get_or-drop at k 4 0, eq-eqb _ _ h, drop-drop 5 at k, word_none _ e)

    pub words_read : get_or k (at + 4) 0 ≡ 0x2F → {y : ℕ} → Some y ≡ word_of (drop (at + 5) k) → Some (record { date = x; serial = y }) ≡ words_of (drop at k)
    unfolding words_of is_words
    words_read h {y} serial =
        let d = word_told _ _ date in
        let s = word_told _ _ serial in
        rw (length-drop at k, eq-eqb _ _ nine, d.0, get_or-drop at k 4 0, eq-eqb _ _ h, drop-drop 5 at k, s.0, d.1, s.1)

pub words_told : (s : List ℕ) (w : Read) → Some w ≡ words_of s → (is_words s ≡ true) × (w ≡ record { date = digits_word s; serial = digits_word (drop 5 s) })
unfolding words_of
words_told s w e = go (is_words s) refl
  where
    go : (t : Bool) → is_words s ≡ t → (is_words s ≡ true) × (w ≡ record { date = digits_word s; serial = digits_word (drop 5 s) })
    go true f = let e' : Some w ≡ Some (record { date = digits_word s; serial = digits_word (drop 5 s) }) = rw f at e in (f, cc)
    go false f = let e' : Some w ≡ None = rw f at e in let z : ◌≡◌ {A = ℕ} 0 1 = cc in absurd (omega arith)

pub words_none : (s : List ℕ) → None ≡ words_of s → is_words s ≡ false
unfolding words_of
words_none s e = none_chosen (is_words s) _ e

-- ---- what is read says what the bytes are

value_sound : (c : ℕ) → is_digit c ≡ true → hex_digit (digit_value c) ≡ c
value_sound c h = go (leb 0x30 c && leb c 0x39) (leb 0x61 c && leb c 0x66) refl refl
  where
    go : (p q : Bool) → leb 0x30 c && leb c 0x39 ≡ p → leb 0x61 c && leb c 0x66 ≡ q → hex_digit (digit_value c) ≡ c
    go true q e f =
        let b = between 0x30 0x39 c e in
        let l : c - 0x30 < 10 = omega arith in
        rw (le-leb c 0x39 b.1, lt-ltb (c - 0x30) 10 l) (omega arith)
    go false true e f =
        let b = between 0x61 0x66 c f in
        let l : 10 ≤ c - 0x57 = omega arith in
        rw (lt-leb c 0x39 (omega arith), le-ltb (c - 0x57) 10 l) (omega arith)
    go false false e f =
        let h' : false ≡ true = rw (e, f) at h in
        let z : ◌≡◌ {A = ℕ} 0 1 = cc in
        absurd (omega arith)

-- the digits of a sum of four digits
digits : (p q r s : ℕ) → p < 16 → q < 16 → r < 16 → s < 16 → hex_word (p * 4096 + q * 256 + r * 16 + s) ≡ hex_digit p ∷ hex_digit q ∷ hex_digit r ∷ hex_digit s ∷ []
unfolding hex_word
digits p q r s hp hq hr hs =
    let z₁ : (p * 4096 + q * 256 + r * 16 + s) / 4096 ≡ p = omega arith in
    let z₂ : (p * 4096 + q * 256 + r * 16 + s) / 256 % 16 ≡ q = omega arith in
    let z₃ : (p * 4096 + q * 256 + r * 16 + s) / 16 % 16 ≡ r = omega arith in
    let z₄ : (p * 4096 + q * 256 + r * 16 + s) % 16 ≡ s = omega arith in
    rw (z₁, z₂, z₃, z₄)

-- four digits, taken apart
pub record Digits (s : List ℕ) : Type 0 where
  pub first : is_digit (get_or s 0 0) ≡ true
  pub second : is_digit (get_or s 1 0) ≡ true
  pub third : is_digit (get_or s 2 0) ≡ true
  pub fourth : is_digit (get_or s 3 0) ≡ true

pub word_digits : (s : List ℕ) → is_word s ≡ true → Digits s
unfolding is_word
word_digits s e =
    let v : ℕ → Bool = λ i. is_digit (get_or s i 0) in
    let a = (and-eq-true_iff (v 0 && v 1 && v 2) (v 3)).0 e in
    let b = (and-eq-true_iff (v 0 && v 1) (v 2)).0 a.0 in
    let c = (and-eq-true_iff (v 0) (v 1)).0 b.0 in
    record { first = c.0; second = c.1; third = b.1; fourth = a.1 }

pub word_below : (s : List ℕ) → is_word s ≡ true → digits_word s < 65536
unfolding digits_word
word_below s e = let d = word_digits s e in omega (arith, digit_below (get_or s 0 0) d.first, digit_below (get_or s 1 0) d.second, digit_below (get_or s 2 0) d.third, digit_below (get_or s 3 0) d.fourth)

-- bytes that begin with four digits begin with the word that these stand for
pub word_sound : (s : List ℕ) → 4 ≤ length s → is_word s ≡ true → s ≡ hex_word (digits_word s) ++ drop 4 s
unfolding digits_word
word_sound s h e =
    let w = word_digits s e in
    let f : hex_word (digit_value (get_or s 0 0) * 4096 + digit_value (get_or s 1 0) * 256 + digit_value (get_or s 2 0) * 16 + digit_value (get_or s 3 0)) ≡ get_or s 0 0 ∷ get_or s 1 0 ∷ get_or s 2 0 ∷ get_or s 3 0 ∷ [] =
    digits _ _ _ _ (digit_below _ w.first) (digit_below _ w.second) (digit_below _ w.third) (digit_below _ w.fourth)
    ∙ rw (value_sound (get_or s 0 0) w.first, value_sound (get_or s 1 0) w.second, value_sound (get_or s 2 0) w.third, value_sound (get_or s 3 0) w.fourth) in
    let d₀ : s ≡ get_or s 0 0 ∷ drop 1 s = drop-cons s 0 0 (omega arith) in
    let d₁ : drop 1 s ≡ get_or s 1 0 ∷ drop 2 s = drop-cons s 1 0 (omega arith) in
    let d₂ : drop 2 s ≡ get_or s 2 0 ∷ drop 3 s = drop-cons s 2 0 (omega arith) in
    let d₃ : drop 3 s ≡ get_or s 3 0 ∷ drop 4 s = drop-cons s 3 0 (omega arith) in
    let d : s ≡ get_or s 0 0 ∷ get_or s 1 0 ∷ get_or s 2 0 ∷ get_or s 3 0 ∷ drop 4 s = cc in
    d ∙ sym (ap (λ (l : List ℕ). l ++ drop 4 s) f)

-- the tests of `is_words`, taken apart
pub record Tail (s : List ℕ) : Type 0 where
  pub nine : length s ≡ 9
  pub date : is_word s ≡ true
  pub stroke : get_or s 4 0 ≡ 0x2F
  pub serial : is_word (drop 5 s) ≡ true

pub tail_of : (s : List ℕ) → is_words s ≡ true → Tail s
unfolding is_words
tail_of s e =
    let a = (and-eq-true_iff (eqb (length s) 9 && is_word s && eqb (get_or s 4 0) 0x2F) (is_word (drop 5 s))).0 e in
    let b = (and-eq-true_iff (eqb (length s) 9 && is_word s) (eqb (get_or s 4 0) 0x2F)).0 a.0 in
    let c = (and-eq-true_iff (eqb (length s) 9) (is_word s)).0 b.0 in
    record { nine = eqb-true _ _ c.0; date = c.1; stroke = eqb-true _ _ b.1; serial = a.1 }

pub words_sound : (s : List ℕ) → is_words s ≡ true → s ≡ hex_word (digits_word s) ++ (0x2F ∷ hex_word (digits_word (drop 5 s)))
words_sound s e =
    let t = tail_of s e in
    let n : length (drop 5 s) ≡ length s - 5 = length-drop 5 s in
    let x : s ≡ hex_word (digits_word s) ++ drop 4 s = word_sound s (omega (arith, t.nine)) t.date in
    let m : drop 4 s ≡ get_or s 4 0 ∷ drop 5 s = drop-cons s 4 0 (omega (arith, t.nine)) in
    let y : drop 5 s ≡ hex_word (digits_word (drop 5 s)) ++ drop 4 (drop 5 s) = word_sound (drop 5 s) (omega (arith, t.nine)) t.serial in
    let short : length (drop 5 s) ≤ 4 = omega (arith, t.nine) in
    let o : drop 4 (drop 5 s) ≡ [] = drop_of_length-le (drop 5 s) short in
    let z : drop 5 s ≡ hex_word (digits_word (drop 5 s)) = y ∙ ap (λ (l : List ℕ). hex_word (digits_word (drop 5 s)) ++ l) o ∙ append-nil _ in
    x ∙ ap (λ (l : List ℕ). hex_word (digits_word s) ++ l) (m ∙ ap (λ (i : ℕ). i ∷ drop 5 s) t.stroke ∙ ap (λ (l : List ℕ). 0x2F ∷ l) z)
