-- Messages one after another: how many bytes, and one list of them behind another.
-- Assumes nothing.
use Prim.Native.Nat.{◌*◌, ◌<◌}
use mathlib.Core.Bool.{Bool, true, false}
use mathlib.Core.List.{List, [], ◌∷◌, ◌++◌, append_assoc, append-nil}
use mathlib.Core.Path.{◌≡◌, refl, sym, ap, ◌∙◌}
use native.Mathlib.Omega.{arith}
use lib.ListN.{length, length-append}
use Rattle.frame.specs.Broadcasts.{sent_as, message_size, all_sent}
use Rattle.frame.specs.declared.Message.{Message}

-- one message has its size
pub sent_size : (plain : Bool) (m : Message) → length (sent_as plain m) ≡ message_size plain
sent_size true m = refl
sent_size false m = refl

pub some_size : (plain : Bool) → 0 < message_size plain
some_size true = omega arith
some_size false = omega arith

-- the bytes are that many for each message
pub all_size : (plain : Bool) (ms : List Message) → length (all_sent plain ms) ≡ message_size plain * length ms
all_size plain [] = omega arith
all_size plain (m ∷ ms) = length-append (sent_as plain m) (all_sent plain ms) ∙ omega (arith, sent_size plain m, all_size plain ms)

-- one list behind another
pub all_append : (plain : Bool) (ms ns : List Message) → all_sent plain ms ++ all_sent plain ns ≡ all_sent plain (ms ++ ns)
all_append plain [] ns = refl
all_append plain (m ∷ ms) ns = append_assoc (sent_as plain m) (all_sent plain ms) (all_sent plain ns) ∙ ap (λ bytes. sent_as plain m ++ bytes) (all_append plain ms ns)

-- two messages
pub all_two : (plain : Bool) (m n : Message) → sent_as plain m ++ sent_as plain n ≡ all_sent plain (m ∷ n ∷ [])
all_two plain m n = ap (λ bytes. sent_as plain m ++ bytes) (sym (append-nil (sent_as plain n)))
