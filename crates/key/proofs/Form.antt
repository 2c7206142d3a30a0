-- The laws of a key's form: words as a key has them, and lengths. Assumes nothing.
use mathlib.Core.Path.{◌≡◌, refl}
use mathlib.Core.List.{List}
use Prim.Native.Nat.{ℕ, ◌+◌}
use native.Mathlib.Omega.{arith}
use lib.ListN.{length, length-append}
use Rattle.names.specs.Names.{escape}
use Rattle.key.specs.Key.{hex_word, key_of}

pub word_length : (w : ℕ) → length (hex_word w) ≡ 4
unfolding hex_word
word_length w = refl

pub key_length : (m d : List ℕ) (x y : ℕ) → length (key_of m d x y) ≡ length (escape m) + length (escape d) + 11
unfolding key_of
key_length m d x y = simp length-append (omega (arith, word_length x, word_length y))
