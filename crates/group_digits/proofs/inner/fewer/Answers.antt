-- One law for each answer.
use native.Mathlib.Omega.{arith}
use Rattle.group_digits.proofs.Splits.{fewer_first, fewer_second}
use Rattle.group_digits.proofs.inner.fewer.Goals as goal

pub returns-then-a-b : goal.returns-then-a-b
returns-then-a-b c = (fewer_first c.if-a-b.true, (omega arith, c.if-a-b.true))

pub returns-else-a-b : goal.returns-else-a-b
returns-else-a-b c = (fewer_second c.if-a-b.false, (omega (arith, c.if-a-b.false), omega arith))
