-- What the mark of a read can ask for: a read, or nothing.
-- Assumes nothing.
use Prim.Native.Nat.{ℕ}
use mathlib.Core.Bool.{Bool, true, false, cond}
use mathlib.Core.List.{List}
use lib.ListN.{get_or}
use Rattle.frame.specs.Transactions.{foreign, misshapen, request_of}
use Rattle.frame.specs.declared.Request.{Request}
use Rattle.frame.specs.declared.Request.TheVariants.{Refused, Read}

pub by_read : (P : Request → Type 0) (address : ℕ) (bytes : List ℕ) → ((n : ℕ) → P (Refused n)) → ((command : ℕ) → P (Read command)) → P (request_of address true bytes)
unfolding request_of
by_read P address bytes refused read = go (foreign address bytes) (misshapen address true bytes)
  where
    go : (elsewhere wrong : Bool) → P (cond elsewhere (Refused 3) (cond wrong (Refused 4) (Read (get_or bytes 1 0))))
    go true wrong = refused 3
    go false true = refused 4
    go false false = read (get_or bytes 1 0)
