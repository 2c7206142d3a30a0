-- What is written is read back: names, words, and the whole key, also with bytes after it. Assumes nothing.
use mathlib.Core.Path.{◌≡◌, refl, sym, ap, ◌∙◌}
use mathlib.Core.Bool.{Bool, true, false, cond}
use mathlib.Core.List.{List, [], ◌∷◌, ◌++◌, append_assoc, append-nil}
use mathlib.Core.Option.{none, some}
use Prim.Native.Nat.{ℕ, ◌+◌, ◌/◌, ◌%◌, ◌≤◌, ◌<◌}
use native.Mathlib.Omega.{arith}
use lib.Dec.{ltb}
use lib.ListN.{length, get_or, drop, length-append}
use borrow.Author.Tests.{le-leb, lt-leb, ltb-true, ltb-false, eq-eqb}
use Rattle.names.specs.Names.{escape}
use Rattle.key.specs.Key.{hex_digit, hex_word, key_of, key_of_parts, Parts, PartsFit, is_digit, digit_value, is_word, digits_word, is_words, read_key}
use Rattle.names.proofs.Reading.{read_stopped}
use Rattle.key.proofs.Form.{word_length}
use Rattle.key.proofs.Words.{tail_of}

-- a digit is one, and stands for its number
pub digit_hex : (n : ℕ) → n < 16 → is_digit (hex_digit n) ≡ true
digit_hex n h = go (ltb n 10) refl
  where
    go : (t : Bool) → ltb n 10 ≡ t → is_digit (hex_digit n) ≡ true
    go true e =
        let l : n < 10 = ltb-true n 10 e in
        simp (e, le-leb 0x30 (0x30 + n) (omega arith), le-leb (0x30 + n) 0x39 (omega arith))
    go false e =
        let l : 10 ≤ n = ltb-false n 10 e in
        simp (e, le-leb 0x30 (0x57 + n) (omega arith), lt-leb (0x57 + n) 0x39 (omega arith), le-leb 0x61 (0x57 + n) (omega arith), le-leb (0x57 + n) 0x66 (omega arith))

pub value_hex : (n : ℕ) → n < 16 → digit_value (hex_digit n) ≡ n
value_hex n h = go (ltb n 10) refl
  where
    go : (t : Bool) → ltb n 10 ≡ t → digit_value (hex_digit n) ≡ n
    go true e =
        let l : n < 10 = ltb-true n 10 e in
        simp (e, le-leb (0x30 + n) 0x39 (omega arith)) (omega arith)
    go false e =
        let l : 10 ≤ n = ltb-false n 10 e in
        simp (e, lt-leb (0x57 + n) 0x39 (omega arith)) (omega arith)

module _ (w : ℕ) (h : w < 65536) (t : List ℕ) where
  pub is-word : is_word (hex_word w ++ t) ≡ true
  unfolding is_word hex_word
  is-word = rw (digit_hex (w / 4096) (omega arith), digit_hex (w / 256 % 16) (omega arith), digit_hex (w / 16 % 16) (omega arith), digit_hex (w % 16) (omega arith))

  pub word_of : digits_word (hex_word w ++ t) ≡ w
  unfolding digits_word hex_word
  word_of =
      simp (value_hex (w / 4096) (omega arith), value_hex (w / 256 % 16) (omega arith), value_hex (w / 16 % 16) (omega arith), value_hex (w % 16) (omega arith)) (omega arith)

-- the words of a key, with bytes after them
abbrev pub words_of : ℕ → ℕ → List ℕ → List ℕ
words_of x y s = hex_word x ++ (0x2F ∷ (hex_word y ++ s))

words_length : (x y : ℕ) (s : List ℕ) → length (words_of x y s) ≡ 9 + length s
words_length x y s = simp length-append (omega (arith, word_length x, word_length y))

past_five : (x y : ℕ) (s : List ℕ) → drop 5 (words_of x y s) ≡ hex_word y ++ s
unfolding hex_word
past_five x y s = refl

fifth : (x y : ℕ) (s : List ℕ) → get_or (words_of x y s) 4 0 ≡ 0x2F
unfolding hex_word
fifth x y s = refl

pub words_yes : (x y : ℕ) → x < 65536 → y < 65536 → is_words (words_of x y []) ≡ true
unfolding is_words
words_yes x y hx hy =
    simp (eq-eqb _ _ (words_length x y []), is-word x hx (0x2F ∷ (hex_word y ++ [])), past_five x y [], is-word y hy [], fifth x y [])

pub words_no : (x y : ℕ) (s : List ℕ) → is_words (words_of x y s) ≡ true → length s ≡ 0
words_no x y s e = omega (arith, (tail_of (words_of x y s) e).nine, words_length x y s)

-- a key with bytes after it, read up to its words
pub read_names : (p : Parts) → PartsFit p → (s : List ℕ)
    → read_key (key_of_parts p ++ s) ≡ cond (is_words (words_of p.date p.serial s)) (some (record { maker = p.maker; device = p.device; date = digits_word (words_of p.date p.serial s); serial = digits_word (drop 5 (words_of p.date p.serial s)) })) none
unfolding read_key key_of
read_names p f s =
    let joined : key_of_parts p ++ s ≡ escape p.maker ++ (0x2F ∷ (escape p.device ++ (0x2F ∷ words_of p.date p.serial s))) = simp append_assoc in
    rw (joined, read_stopped p.maker _, le-leb _ _ f.maker_fits, read_stopped p.device _, le-leb _ _ f.device_fits)

-- what is read back are the parts
pub read_back : (p : Parts) → PartsFit p → read_key (key_of_parts p) ≡ some p
read_back p f =
    let x : ℕ = p.date in
    let y : ℕ = p.serial in
    ap read_key (sym (append-nil (key_of_parts p))) ∙ read_names p f []
    ∙ rw (words_yes x y f.date_fits f.serial_fits, past_five x y [], word_of x f.date_fits (0x2F ∷ (hex_word y ++ [])), word_of y f.serial_fits [])
