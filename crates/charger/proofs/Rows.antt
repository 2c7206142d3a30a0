-- A command's row, by whether it is shown or taken.
-- Assumes nothing.
use Prim.Native.Nat.{ℕ}
use mathlib.Core.Bool.{true, false}
use mathlib.Core.Path.{◌≡◌}
use Rattle.charger.specs.Commands.{is_shown, is_taken, charger_kind}
use Rattle.commands.specs.declared.Kind.TheVariants.{ReadOnly, WriteOnly, Reserved}

pub shown : (command : ℕ) → is_shown command ≡ true → charger_kind command ≡ ReadOnly
unfolding charger_kind
shown command e = simp e

pub taken : (command : ℕ) → is_shown command ≡ false → is_taken command ≡ true → charger_kind command ≡ WriteOnly
unfolding charger_kind
taken command e f = simp (e, f)

pub neither : (command : ℕ) → is_shown command ≡ false → is_taken command ≡ false → charger_kind command ≡ Reserved
unfolding charger_kind
neither command e f = simp (e, f)
