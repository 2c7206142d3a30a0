-- Document 01, Pack sheet and capture: what a pack sheet is, and the test for one. Definitions: assumes nothing.
use Rattle.std.specs.Prelude.{Bool, false, cond, ◌&&◌, List, [], ◌∷◌, ◌++◌, ℕ, zero, suc, ◌+◌, ◌*◌, ◌/◌, ◌%◌, eqb, ltb, leb, length, get_or}
use Rattle.std.proofs.Math.Option.{Option, none, some}
use Rattle.rooms.specs.Rooms.{between}

-- ---- the layout, the same in every form

-- a tag that is listed, with its body
pub record Entry : Type 0 where
  pub tag : ℕ
  pub body : List ℕ

-- a row for each entry: tag, length, offset (low byte first); the first body lies at `offset`, each next one where the one before ends (RULES 9.2)
abbrev pub rows_of : ℕ → List Entry → List ℕ
rows_of offset [] = []
rows_of offset (e ∷ es) = e.tag ∷ length e.body ∷ offset % 256 ∷ offset / 256 ∷ rows_of (offset + length e.body) es

-- the bodies in that order, without gaps (RULES 9.3)
abbrev pub bodies_of : List Entry → List ℕ
bodies_of [] = []
bodies_of (e ∷ es) = e.body ++ bodies_of es

-- ---- forms

-- a tag that a form may list, with the least and the most bytes of its body
pub record TagKind : Type 0 where
  pub tag : ℕ
  pub least : ℕ
  pub most : ℕ

-- a form: the first byte of a sheet of n rows is mark + n, the mark a multiple of 128; the tags that may be listed, rising, each once
pub record Form : Type 0 where
  pub mark : ℕ
  pub kinds : List TagKind

-- a block name has 0 to 32 bytes (RULES 9.2)
abbrev pub name : ℕ → TagKind
name tag = record { tag = tag; least = 0; most = 32 }

-- the form of document 01: the first byte is n, 0 to 4, and the tags are 20 to 23 (RULES 9.1, 9.2)
unfoldable pub old : Form
old = record { mark = 0; kinds = name 0x20 ∷ name 0x21 ∷ name 0x22 ∷ name 0x23 ∷ [] }

-- the contents: the first byte, then the rows; the first body starts right after them (RULES 9.1)
abbrev pub contents_of : Form → List Entry → List ℕ
contents_of f es = (f.mark + length es) ∷ rows_of (1 + 4 * length es) es

-- the sheet of entries: the contents first, then the bodies, which end it (RULES 9.1, 9.3)
unfoldable pub sheet_of : Form → List Entry → List ℕ
sheet_of f es = contents_of f es ++ bodies_of es

-- a row and the longest body for each kind
abbrev pub rows_and_bodies : List TagKind → ℕ
rows_and_bodies [] = 0
rows_and_bodies (k ∷ ks) = 4 + k.most + rows_and_bodies ks

-- the most bytes of a sheet of a form
abbrev pub longest : Form → ℕ
longest f = 1 + rows_and_bodies f.kinds

-- ---- the test

-- of the row that starts at byte `at`: its tag, its length, its offset
abbrev pub tag_at : List ℕ → ℕ → ℕ
tag_at s at = get_or s at 0

abbrev pub length_at : List ℕ → ℕ → ℕ
length_at s at = get_or s (at + 1) 0

abbrev pub offset_at : List ℕ → ℕ → ℕ
offset_at s at = get_or s (at + 2) 0 + 256 * get_or s (at + 3) 0

-- n, how many rows: the first byte without the mark
abbrev pub rows_listed : List ℕ → ℕ
rows_listed s = get_or s 0 0 % 128

-- a body of l bytes may stand under a tag
unfoldable pub allows : List TagKind → ℕ → ℕ → Bool
allows [] tag l = false
allows (k ∷ ks) tag l = cond (eqb k.tag tag) (leb k.least l && leb l k.most) (allows ks tag l)

-- a row is right: its tag is `low` or above, its length is allowed, and its body starts at `end`, where the one before ends
unfoldable pub row_ok : List TagKind → List ℕ → ℕ → ℕ → ℕ → Bool
row_ok ks s at low end = leb low (tag_at s at) && allows ks (tag_at s at) (length_at s at) && eqb (offset_at s at) end

-- n rows from byte `at` on are right, their tags rise, and the last body ends the sheet
unfoldable pub rows_ok : List TagKind → ℕ → List ℕ → ℕ → ℕ → ℕ → Bool
rows_ok ks zero s at low end = eqb end (length s)
rows_ok ks (suc n) s at low end = row_ok ks s at low end && rows_ok ks n s (at + 4) (tag_at s at + 1) (end + length_at s at)

-- bytes are a sheet of a form: the first byte is mark + n, there are at most as many rows as kinds, and they are right; the bodies follow them (RULES 9.1 to 9.3)
unfoldable pub is_sheet_of : Form → List ℕ → Bool
is_sheet_of f s =
    ltb 0 (length s) && eqb (get_or s 0 0) (f.mark + rows_listed s) && leb (rows_listed s) (length f.kinds) && leb (1 + 4 * rows_listed s) (length s)
    && rows_ok f.kinds (rows_listed s) s 1 0 (1 + 4 * rows_listed s)

-- bytes are a sheet (RULES 9)
abbrev pub is_sheet : List ℕ → Bool
is_sheet s = is_sheet_of old s

-- ---- what bytes list, by their rows

-- the entries of n rows from byte `at` on
unfoldable pub entries_from : ℕ → List ℕ → ℕ → List Entry
entries_from zero s at = []
entries_from (suc n) s at = record { tag = tag_at s at; body = between s (offset_at s at) (offset_at s at + length_at s at) } ∷ entries_from n s (at + 4)

abbrev pub entries_in : List ℕ → List Entry
entries_in s = entries_from (rows_listed s) s 1

-- what entries have under a tag: a body or none
unfoldable pub among : ℕ → List Entry → Option (List ℕ)
among tag [] = none
among tag (e ∷ es) = cond (eqb e.tag tag) (some e.body) (among tag es)

abbrev pub body_in : List ℕ → ℕ → Option (List ℕ)
body_in s tag = among tag (entries_in s)
