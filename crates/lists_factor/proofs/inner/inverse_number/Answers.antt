-- The element is tested, and then its row answers.
use native.Mathlib.Omega.{arith}
use Rattle.lists_factor.proofs.inner.inverse_number.Goals as goal

pub returns-then-count-x : goal.returns-then-count-x
returns-then-count-x c = λ h. absurd (omega (arith, h))

pub recorded-requires : goal.recorded-requires
recorded-requires c = (c.requires, (omega (arith, c.if-count-x.false), omega arith))

pub returns : goal.returns
returns c = λ h. (omega (arith, c.if-count-x.false), c.recorded.ensures)
