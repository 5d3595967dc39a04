use native.Mathlib.Omega.{arith}
use Rattle.factor_quick_walks.proofs.Numbers.{onward_chosen}
use Rattle.factor_quick_walks.proofs.inner.one_letter.Goals as goal

pub returns-then-n-letter : goal.returns-then-n-letter
returns-then-n-letter c = λ h. absurd (omega arith)

pub returns-then-x-eq0 : goal.returns-then-x-eq0
returns-then-x-eq0 c = λ h. absurd (omega arith)

pub returns-then-count-x : goal.returns-then-count-x
returns-then-count-x c = λ h. absurd (omega arith)

pub returns : goal.returns
returns c = λ h. onward_chosen c.if-n-letter.false c.stored_step-x.ensures c.if-x-eq0.false c.if-count-x.false c.fewer.result c.requires.1.1.0 c.fewer.ensures c.chosen.ensures
