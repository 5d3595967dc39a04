-- One law for each answer, from the number that was read.
use Rattle.factor_questions.proofs.Walks.{inverse_beyond, inverse_element}
use Rattle.egg.proofs.Laws.{got}
use Rattle.factor_questions.proofs.inner.inverse_in.Goals as goal

pub returns-then-count-i : goal.returns-then-count-i
returns-then-count-i c = let a = c.args in inverse_beyond a.s.now a.n a.count a.a.0 (got a.s.now c.get-i.ensures c.inverse_at.ensures.at) c.if-count-i.true

pub returns : goal.returns
returns c = let a = c.args in inverse_element a.s.now a.n a.count a.a.0 (got a.s.now c.get-i.ensures c.inverse_at.ensures.at) c.if-count-i.false
