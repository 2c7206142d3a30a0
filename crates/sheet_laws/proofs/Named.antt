-- Block names in terms of bodies. Assumes nothing.
use mathlib.Core.Path.{◌≡◌, ap, ◌∙◌}
use mathlib.Core.Bool.{true}
use mathlib.Core.List.{List, []}
use mathlib.Core.Option.{get_or}
use native.Mathlib.Omega.{arith}
use Rattle.sheet.specs.Sheet.{Entry, old, sheet_of, entries_in, among, body_in}
use Rattle.sheet.proofs.Names.{name_is}
use Rattle.sheet_forms.specs.Forms.{listable}
use Rattle.sheet_laws.specs.Laws.{SheetNamed, SheetNamedBack}
use Rattle.sheet_forms.proofs.Entries.{few_entries, read_back}
use Rattle.sheet_forms.proofs.Forms.{old_proper, is-sheet}

pub name_of : SheetNamed
name_of s f tag hs hf = name_is s f tag (rw (hs, hf))

pub name_back : SheetNamedBack
name_back es ds tag ge gd =
    name_of (sheet_of old es) (sheet_of old ds) tag (is-sheet old old_proper es ge) (is-sheet old old_proper ds gd)
    ∙ ap (λ (x : List Entry). get_or (among tag x) (get_or (body_in (sheet_of old ds) tag) [])) (back es ge)
    ∙ ap (λ (x : List Entry). get_or (among tag es) (get_or (among tag x) [])) (back ds gd)
  where
    back : (cs : List Entry) → listable old.kinds 0 cs ≡ true → entries_in (sheet_of old cs) ≡ cs
    back cs g = read_back old old_proper cs (omega (arith, few_entries old.kinds cs g, old_proper.few))
