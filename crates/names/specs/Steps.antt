-- What the contracts of `stroke` and of the inner functions cite; the promises are in `Names`. Assumes nothing: these are definitions.
use Rattle.std.specs.Prelude.{cond, List, [], ℕ, ◌+◌, eqb, leb, length, get_or, Option, Some, None}
use Rattle.std.proofs.Math.Option as specified
use Rattle.names.specs.declared.Ending.{Ending}
use Rattle.names.specs.declared.Ending.TheVariants.{Stopped, Ended, Bad}
use Rattle.names.specs.Names.{Name, bad, ended, stopped, escape, unescaped}

-- what reading comes to as one number, where it goes on at the place `at` after n bytes of the name, in bytes whose length is `last`
abbrev pub number_of : Name → ℕ → ℕ → ℕ → ℕ
-- a bad escape: the length
number_of bad at n last = last
-- a name that the last byte ends: above the length, by one and by the bytes of the name; over 32 bytes: the length
number_of (ended name) at n last = cond (leb (n + length name) 32) (last + 1 + (n + length name)) last
-- a name that a 2F ends: the place of that 2F, which is below the length; over 32 bytes: the length
number_of (stopped name rest) at n last = cond (leb (n + length name) 32) (at + length (escape name)) last

-- what the code says of a reading that goes on at the place `at` after n bytes of the name: where its 2F stands, or how many bytes the name has; over 32 bytes it is bad
abbrev pub ending_of : Name → ℕ → ℕ → Ending
ending_of bad at n = Bad
ending_of (ended name) at n = cond (leb (n + length name) 32) (Ended (n + length name)) Bad
ending_of (stopped name rest) at n = cond (leb (n + length name) 32) (Stopped (at + length (escape name))) Bad

-- where a name of up to 32 bytes, read from the place `from` on, ends at a 2F
abbrev pub stroke_of : Name → ℕ → Option ℕ
stroke_of bad from = None
stroke_of (ended name) from = None
stroke_of (stopped name rest) from = cond (leb (length name) 32) (Some (from + length (escape name))) None

-- the plain name, or no bytes
abbrev pub plain_of : List ℕ → List ℕ
plain_of bytes = specified.get_or (unescaped bytes) []

-- the place of the byte that an escape mark at `at` hands on, or `at` itself
abbrev pub past_mark : List ℕ → ℕ → ℕ
past_mark part at = cond (eqb (get_or part at 0) 0x5C) (at + 1) at
