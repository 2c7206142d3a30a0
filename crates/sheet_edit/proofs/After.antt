-- Entries after an edit, in any form: one by one, and that they may be listed. Assumes nothing.
use mathlib.Core.Path.{◌≡◌, refl}
use mathlib.Core.Bool.{true}
use mathlib.Core.List.{List, [], ◌∷◌, ◌++◌}
use mathlib.Core.Option.{Option, none, some}
use Prim.Native.Nat.{ℕ, ◌+◌, ◌≤◌, ◌<◌}
use native.Mathlib.Omega.{arith}
use lib.ListN.{length}
use Rattle.sheet.specs.Sheet.{Entry, TagKind, allows}
use Rattle.sheet_forms.specs.Forms.{listable}
use Rattle.sheet_forms.proofs.Entries.{First, first, cons, lower}
use Rattle.sheet_edit.specs.Edit.{below, above, entry_for, edited}
use Rattle.sheet_edit.proofs.Entries.{Order, is-less, is_same, is-more, order, when-less, when-same, when-more, high}

-- ---- an edit, entry by entry

module _ (ks : List TagKind) (tag : ℕ) (to : Option (List ℕ)) where
  pub edited-none : edited tag to [] ≡ entry_for tag to ++ []
  unfolding edited below above
  edited-none = refl

  pub edited-less : (e : Entry) (es : List Entry) → e.tag < tag → edited tag to (e ∷ es) ≡ e ∷ edited tag to es
  unfolding edited
  edited-less e es h = let S = when-less tag e es h in rw (S.is_below, S.is-above)

  pub edited-same : (e : Entry) (es : List Entry) → listable ks (e.tag + 1) es ≡ true → e.tag ≡ tag → edited tag to (e ∷ es) ≡ entry_for tag to ++ es
  unfolding edited
  edited-same e es g q =
      let S = when-same tag e es q in
      let H = high ks (e.tag + 1) tag es g (omega arith) in
      rw (S.is_below, S.is-above, H.no_below, H.all_above)

  pub edited-more : (e : Entry) (es : List Entry) → listable ks (e.tag + 1) es ≡ true → tag < e.tag → edited tag to (e ∷ es) ≡ entry_for tag to ++ (e ∷ es)
  unfolding edited
  edited-more e es g h =
      let S = when-more tag e es h in
      let H = high ks (e.tag + 1) tag es g (omega arith) in
      rw (S.is_below, S.is-above, H.no_below, H.all_above)

-- ---- they may be listed

-- what an edit brings may stand under its tag
abbrev pub Allowed : List TagKind → ℕ → Option (List ℕ) → Type 0
Allowed ks tag none = Unit {0}
Allowed ks tag (some body) = allows ks tag (length body) ≡ true

entry_may : (ks : List TagKind) (low tag : ℕ) (to : Option (List ℕ)) (es : List Entry) → low ≤ tag → Allowed ks tag to → listable ks (tag + 1) es ≡ true
    → listable ks low (entry_for tag to ++ es) ≡ true
entry_may ks low tag none es h a g = lower ks low (tag + 1) es (omega arith) g
entry_may ks low tag (some body) es h a g = cons ks low (record { tag = tag; body = body }) es (record { least = h; allowed = a; rest = g })

-- entries whose first tag is higher rise from there on
pub from_first : (ks : List TagKind) (low t : ℕ) (e : Entry) (es : List Entry) → listable ks low (e ∷ es) ≡ true → t < e.tag → listable ks (t + 1) (e ∷ es) ≡ true
from_first ks low t e es g h = let f = first ks low e es g in cons ks (t + 1) e es (record { least = omega arith; allowed = f.allowed; rest = f.rest })

pub edited_may : (ks : List TagKind) (low tag : ℕ) (to : Option (List ℕ)) (es : List Entry) → listable ks low es ≡ true → low ≤ tag → Allowed ks tag to
    → listable ks low (edited tag to es) ≡ true
unfolding listable
edited_may ks low tag to [] g h a = rw (edited-none ks tag to) (entry_may ks low tag to [] h a refl)
edited_may ks low tag to (e ∷ es) g h a =
    let f = first ks low e es g in
    by_order f (λ k. edited_may ks (e.tag + 1) tag to es f.rest k a) (order e.tag tag)
  where
    by_order : First ks low e es → (e.tag + 1 ≤ tag → listable ks (e.tag + 1) (edited tag to es) ≡ true) → Order e.tag tag → listable ks low (edited tag to (e ∷ es)) ≡ true
    by_order f next (is-less k) = rw (edited-less ks tag to e es k) (cons ks low e (edited tag to es) (record { least = f.least; allowed = f.allowed; rest = next (omega arith) }))
    by_order f next (is_same k) = rw (edited-same ks tag to e es f.rest k) (entry_may ks low tag to es h a (rw k at f.rest))
    by_order f next (is-more k) = rw (edited-more ks tag to e es f.rest k) (entry_may ks low tag to (e ∷ es) h a (from_first ks low tag e es g k))
