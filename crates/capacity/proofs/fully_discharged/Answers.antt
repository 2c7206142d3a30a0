-- `capacity::fully_discharged` meets its contract: each way out by its tests.
-- Assumes nothing.
use borrow.Author.Tests.{le-leb, lt-leb, eq-eqb, ne_eqb}
use Rattle.capacity.proofs.fully_discharged.Goals as goal

pub returns-then-charge-eq0 : goal.returns-then-charge-eq0
returns-then-charge-eq0 c = simp (eq-eqb _ _ c.if-charge-eq0.true)

pub returns-then-relative-ge20 : goal.returns-then-relative-ge20
returns-then-relative-ge20 c = simp (ne_eqb _ _ c.if-charge-eq0.false, ← c.relative.ensures, le-leb _ _ c.if-relative-ge20.true)

pub returns : goal.returns
returns c = simp (ne_eqb _ _ c.if-charge-eq0.false, ← c.relative.ensures, lt-leb _ _ c.if-relative-ge20.false)
