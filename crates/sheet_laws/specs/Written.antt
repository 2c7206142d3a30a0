-- What the writer's laws speak of. Definitions: assumes nothing.
use Rattle.std.specs.Prelude.{◌≡◌, true, cond, List, ℕ, eqb}
use Rattle.std.proofs.Math.Option.{Option, none}
use Rattle.sheet.specs.Sheet.{old, sheet_of}
use Rattle.sheet_writer.specs.Writing.{choice, short}

-- the bytes are those that the writer gives for some choice: a body of at most 32 bytes or none for each of the four tags
pub record Written (s : List ℕ) : Type 0 where
  pub body20 : Option (List ℕ)
  pub body21 : Option (List ℕ)
  pub body22 : Option (List ℕ)
  pub body23 : Option (List ℕ)
  pub small : short (choice body20 body21 body22 body23) ≡ true
  pub is : s ≡ sheet_of old (choice body20 body21 body22 body23)

-- what a choice gives a tag: a body or none
abbrev pub given_to : ℕ → Option (List ℕ) → Option (List ℕ) → Option (List ℕ) → Option (List ℕ) → Option (List ℕ)
given_to tag body20 body21 body22 body23 =
    cond (eqb 0x20 tag) body20 (cond (eqb 0x21 tag) body21 (cond (eqb 0x22 tag) body22 (cond (eqb 0x23 tag) body23 none)))
