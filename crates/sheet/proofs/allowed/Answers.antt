use Rattle.std.proofs.Common.{sym, ◌∙◌, arith}
use borrow.Author.Tests.{le-leb}
use Rattle.sheet.proofs.Tags.{allows-is, no-others}
use Rattle.sheet.proofs.allowed.Goals as goal

pub returns-in-32-to-35 : goal.returns-in-32-to-35
returns-in-32-to-35 c = sym (allows-is _ _ ∙ rw (le-leb 0x20 c.args.tag (omega arith), le-leb c.args.tag 0x23 (omega arith)))

pub returns-in_default : goal.returns-in_default
returns-in_default c = sym (no-others _ _ (λ least most. omega arith))

pub returns-in_default-2 : goal.returns-in_default-2
returns-in_default-2 c = sym (no-others _ _ (λ least most. omega arith))
