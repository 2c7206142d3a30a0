-- What a form of sheets may list. Definitions: assumes nothing.
use Rattle.std.specs.Prelude.{◌≡◌, Bool, true, ◌&&◌, List, [], ◌∷◌, ℕ, ◌+◌, ◌%◌, ◌<◌, leb, length}
use Rattle.sheet.specs.Sheet.{Entry, TagKind, Form, sheet_of, allows}

-- a form that can be read: its mark leaves the low seven bits of the first byte to n
pub record Proper (f : Form) : Type 0 where
  pub marks : f.mark % 128 ≡ 0
  pub few : length f.kinds < 128

-- entries that a sheet may list: their tags rise, from `low` on, and each is allowed with its length
unfoldable pub listable : List TagKind → ℕ → List Entry → Bool
listable ks low [] = true
listable ks low (e ∷ es) = leb low e.tag && allows ks e.tag (length e.body) && listable ks (e.tag + 1) es

-- the bytes are the sheet of some entries that the form may list
pub record SheetOfSome (f : Form) (s : List ℕ) : Type 0 where
  pub entries : List Entry
  pub may : listable f.kinds 0 entries ≡ true
  pub is : s ≡ sheet_of f entries
