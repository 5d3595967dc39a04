use native.Mathlib.Omega.{arith}
use Rattle.factor_quick_walks.proofs.Numbers.{onward_stays, onward_on}
use Rattle.factor_quick_walks.proofs.inner.advance_two.Goals as goal

pub returns-then-letters-le3 : goal.returns-then-letters-le3
returns-then-letters-le3 c = λ h. onward_stays (omega (arith, c.if-letters-le3.true)) c.if-letters-le3.true c.requires.1.1

pub returns-then-x-eq0 : goal.returns-then-x-eq0
returns-then-x-eq0 c = λ h. absurd (omega arith)

pub one_letter-requires : goal.one_letter-requires
one_letter-requires c = (c.requires.0, (omega (arith, c.if-x-eq0.false), ((c.one_letter-x.ensures (omega (arith, c.if-x-eq0.false))).small, omega arith)))

pub returns : goal.returns
returns c = λ h. onward_on (c.one_letter-x.ensures (omega (arith, c.if-x-eq0.false))) (c.one_letter.ensures h)
