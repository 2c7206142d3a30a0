-- Request R-10: each command of the thirteen-cell pack has its row.
-- Assumes nothing.
use Rattle.std.specs.Prelude.{ℕ, Bool, cond, ◌||◌, eqb}
use Rattle.commands.specs.Commands.{from}
use Rattle.commands.specs.declared.Kind.{Kind}
use Rattle.commands.specs.declared.Kind.TheVariants.{ReadOnly, Block, Optional, Reserved}

-- read only, words: 08, 09, 0A, 0D, 11, 13, 16, 31 to 3D, 4F (RULES 15.1)
abbrev pub is_word : ℕ → Bool
is_word command =
    from 0x08 0x0A command || eqb command 0x0D || eqb command 0x11 || eqb command 0x13 || eqb command 0x16
    || from 0x31 0x3D command || eqb command 0x4F

-- not built: 00, 80, 81, A0 to A2 (RULES 15.1)
abbrev pub is_not_built : ℕ → Bool
is_not_built command = eqb command 0x00 || from 0x80 0x81 command || from 0xA0 0xA2 command

-- read only, a block: F1; all others are reserved (RULES 15.1)
unfoldable pub thirteen_kind : ℕ → Kind
thirteen_kind command =
    cond (is_word command) ReadOnly
    (cond (eqb command 0xF1) Block
    (cond (is_not_built command) Optional
    Reserved))
