-- Document 01, Transactions: each command's row.
-- Assumes nothing.
use Rattle.std.specs.Prelude.{ℕ, Bool, true, false, cond, ◌&&◌, ◌||◌, leb, eqb}
use Rattle.commands.specs.declared.Kind.{Kind}
use Rattle.commands.specs.declared.Kind.TheVariants.{ReadWrite, ReadOnly, WriteOnly, Block, Optional, Reserved}

-- from the first command to the last
abbrev pub from : ℕ → ℕ → ℕ → Bool
from first last command = leb first command && leb command last

-- read and write: 00 to 04; read only: 05 to 1C and blocks 20 to 23; optional, not built: 2F, 3C to 3F; all others are reserved (RULES 5.7 to 5.10)
unfoldable pub kind_of : ℕ → Kind
kind_of command =
    cond (from 0x00 0x04 command) ReadWrite
    (cond (from 0x05 0x1C command) ReadOnly
    (cond (from 0x20 0x23 command) Block
    (cond (eqb command 0x2F || from 0x3C 0x3F command) Optional
    Reserved)))

-- ---- what a row is

-- reserved
abbrev pub is_reserved : Kind → Bool
is_reserved Reserved = true
is_reserved Optional = false
is_reserved Block = false
is_reserved ReadOnly = false
is_reserved WriteOnly = false
is_reserved ReadWrite = false

-- optional, not built
abbrev pub is_optional : Kind → Bool
is_optional Reserved = false
is_optional Optional = true
is_optional Block = false
is_optional ReadOnly = false
is_optional WriteOnly = false
is_optional ReadWrite = false

-- read only, a block among them
abbrev pub is_read_only : Kind → Bool
is_read_only Reserved = false
is_read_only Optional = false
is_read_only Block = true
is_read_only ReadOnly = true
is_read_only WriteOnly = false
is_read_only ReadWrite = false

-- write only, as some of a charger's commands are
abbrev pub is_write_only : Kind → Bool
is_write_only Reserved = false
is_write_only Optional = false
is_write_only Block = false
is_write_only ReadOnly = false
is_write_only WriteOnly = true
is_write_only ReadWrite = false

-- a block
abbrev pub is_block : Kind → Bool
is_block Reserved = false
is_block Optional = false
is_block Block = true
is_block ReadOnly = false
is_block WriteOnly = false
is_block ReadWrite = false
