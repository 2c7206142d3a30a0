-- The laws of writing a key: names and words laid one after the other. Assumes nothing.
use mathlib.Core.Path.{◌≡◌, refl, sym, ap, ◌∙◌}
use mathlib.Core.Bool.{Bool, true, false, ◌||◌}
use mathlib.Core.List.{List, [], ◌∷◌, ◌++◌, append_assoc}
use Prim.Native.Nat.{ℕ, suc, ◌+◌, ◌*◌, ◌/◌, ◌%◌, ◌≤◌, ◌<◌}
use native.Mathlib.Omega.{arith}
use lib.ListN.{length, take, get_or, set, length-append}
use lib.Seq.{sets, length-take-le}
use lib.Dec.{ltb}
use borrow.Author.Tests.{lt-ltb, le-ltb, ltb-false}
use Rattle.std.specs.Prelude.{Ok, Err}
use Rattle.refusals.specs.declared.Refusal.TheVariants.{NoFit}
use Rattle.rooms.proofs.Rooms.{then, front}
use Rattle.names.specs.Names.{escape_byte, escape}
use Rattle.key.specs.Key.{hex_digit, hex_word, key_of}
use Rattle.names.proofs.Escaping.{escape_snoc, escape_length}
use Rattle.key.proofs.Form.{word_length, key_length}
use Rattle.key_writer.specs.Writing.{refused, key_wrote, key_room}

-- ---- a name

pub escape_length_take : (s : List ℕ) (j : ℕ) → j ≤ length s → length (escape (take j s)) ≤ 2 * j
escape_length_take s j h = omega (arith, escape_length (take j s), length-take-le j s h)

-- a turn of the loop that writes a name
pub turn : (name room₀ : List ℕ) (at j : ℕ) {o r : ℕ} {room room' : List ℕ} → j < length name
    → o ≡ at + length (escape (take j name)) → room ≡ sets room₀ at (escape (take j name))
    → r ≡ o + length (escape_byte (get_or name j 0)) → room' ≡ sets room o (escape_byte (get_or name j 0))
    → (r ≡ at + length (escape (take (j + 1) name))) × (room' ≡ sets room₀ at (escape (take (j + 1) name)))
turn name room₀ at j h eo er ro rr =
    let E : List ℕ = escape (take j name) in
    let B : List ℕ = escape_byte (get_or name j 0) in
    let s : escape (take (j + 1) name) ≡ E ++ B = escape_snoc name j h in
    (omega (arith, ap length s ∙ length-append E B), rr ∙ then room₀ at _ E B er eo ∙ ap (sets room₀ at) (sym s))

-- ---- a word

pub word_laid : (l : List ℕ) (at w : ℕ) {a b c d : ℕ} → a ≡ hex_digit (w / 4096) → b ≡ hex_digit (w / 256 % 16) → c ≡ hex_digit (w / 16 % 16) → d ≡ hex_digit (w % 16)
    → set (set (set (set l at a) (at + 1) b) (at + 2) c) (at + 3) d ≡ sets l at (hex_word w)
unfolding hex_word
word_laid l at w ea eb ec ed =
    let z₁ : at + 1 ≡ suc at = omega arith in
    let z₂ : at + 2 ≡ suc (suc at) = omega arith in
    let z₃ : at + 3 ≡ suc (suc (suc at)) = omega arith in
    rw (ea, eb, ec, ed, z₁, z₂, z₃)

-- ---- the key, part by part

key_parts : (m d : List ℕ) (x y : ℕ) → (((((escape m ++ (0x2F ∷ [])) ++ escape d) ++ (0x2F ∷ [])) ++ hex_word x) ++ (0x2F ∷ [])) ++ hex_word y ≡ key_of m d x y
unfolding key_of
key_parts m d x y = simp append_assoc

pub key_laid : (l m d : List ℕ) (x y : ℕ) {a b : ℕ} {l₁ l₃ l₅ l₇ : List ℕ}
    → a ≡ 0 + length (escape m) → l₁ ≡ sets l 0 (escape m)
    → b ≡ a + 1 + length (escape d) → l₃ ≡ sets (set l₁ a 0x2F) (a + 1) (escape d)
    → l₅ ≡ sets (set l₃ b 0x2F) (b + 1) (hex_word x)
    → l₇ ≡ sets (set l₅ (b + 5) 0x2F) (b + 6) (hex_word y)
    → l₇ ≡ sets l 0 (key_of m d x y)
key_laid l m d x y {a} {b} ea e₁ eb e₃ e₅ e₇ =
    let F : List ℕ = escape m ++ (0x2F ∷ []) in
    let G : List ℕ = (F ++ escape d) ++ (0x2F ∷ []) in
    let H : List ℕ = (G ++ hex_word x) ++ (0x2F ∷ []) in
    let f : length F ≡ a + 1 = rw length-append (omega arith) in
    let f' : length (F ++ escape d) ≡ b = rw length-append (omega arith) in
    let g : length G ≡ b + 1 = rw length-append (omega arith) in
    let g' : length (G ++ hex_word x) ≡ b + 5 = rw length-append (omega (arith, word_length x)) in
    let h : length H ≡ b + 6 = rw length-append (omega arith) in
    let p₂ = then l 0 a (escape m) (0x2F ∷ []) e₁ ea in
    let p₃ = e₃ ∙ then l 0 (a + 1) F (escape d) p₂ (omega arith) in
    let p₄ = then l 0 b (F ++ escape d) (0x2F ∷ []) p₃ (omega arith) in
    let p₅ = e₅ ∙ then l 0 (b + 1) G (hex_word x) p₄ (omega arith) in
    let p₆ = then l 0 (b + 5) (G ++ hex_word x) (0x2F ∷ []) p₅ (omega arith) in
    e₇ ∙ then l 0 (b + 6) H (hex_word y) p₆ (omega arith) ∙ ap (sets l 0) (key_parts m d x y)

-- ---- what is refused, and what is not

pub key-wrote : (l m d : List ℕ) (x y : ℕ) {n : ℕ} {l' : List ℕ} → length m ≤ 32 → length d ≤ 32 → 139 ≤ length l → n ≡ length (escape m) + length (escape d) + 11
    → l' ≡ sets l 0 (key_of m d x y) → (Ok n ≡ key_wrote m d x y l) × (l' ≡ key_room m d x y l)
unfolding key_wrote key_room refused
key-wrote l m d x y {n} {l'} hm hd hl en e =
    let K : List ℕ = key_of m d x y in
    let ek : n ≡ length K = en ∙ sym (key_length m d x y) in
    let fits : length K ≤ length l = omega (arith, key_length m d x y, escape_length m, escape_length d) in
    (simp (le-ltb _ _ hm, le-ltb _ _ hd, le-ltb _ _ hl, ek), simp (le-ltb _ _ hm, le-ltb _ _ hd, le-ltb _ _ hl) (e ∙ front K l fits))

pub key_not : (l m d : List ℕ) (x y : ℕ) → (length m ≤ 32 → length d ≤ 32 → length l < 139) → (Err NoFit ≡ key_wrote m d x y l) × (l ≡ key_room m d x y l)
unfolding key_wrote key_room refused
key_not l m d x y h = let w = go (ltb 32 (length m)) (ltb 32 (length d)) refl refl in (rw w, rw w)
  where
    go : (p q : Bool) → ltb 32 (length m) ≡ p → ltb 32 (length d) ≡ q → ltb 32 (length m) || ltb 32 (length d) || ltb (length l) 139 ≡ true
    go true q e f = simp e
    go false true e f = simp (e, f)
    go false false e f = simp (e, f, lt-ltb _ _ (h (ltb-false _ _ e) (ltb-false _ _ f)))
