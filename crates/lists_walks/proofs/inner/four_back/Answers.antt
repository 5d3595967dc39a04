-- None of the four is 0 where the first that is answered is not.
use native.Mathlib.Omega.{arith}
use Rattle.lists_walks.proofs.inner.four_back.Goals as goal

pub returns-then-p-eq0 : goal.returns-then-p-eq0
returns-then-p-eq0 c = λ h. absurd (omega arith)

pub returns-then-q-eq0 : goal.returns-then-q-eq0
returns-then-q-eq0 c = λ h. absurd (omega arith)

pub returns-then-r-eq0 : goal.returns-then-r-eq0
returns-then-r-eq0 c = λ h. absurd (omega arith)

pub returns-then-t-eq0 : goal.returns-then-t-eq0
returns-then-t-eq0 c = λ h. absurd (omega arith)

pub returns : goal.returns
returns c = λ h. record { p = c.letter_back-p.ensures h; q = c.letter_back-q.ensures (omega (arith, c.if-q-eq0.false)); r = c.letter_back-r.ensures (omega (arith, c.if-r-eq0.false)); t = c.letter_back-t.ensures (omega (arith, c.if-t-eq0.false)) }
