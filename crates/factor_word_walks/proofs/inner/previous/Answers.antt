-- One law for each answer, from the number that was read.
use Rattle.egg.proofs.Laws.{got}
use Rattle.factor_word_walks.proofs.Walks.{back_missing, back_beyond, back_element}
use Rattle.factor_word_walks.proofs.inner.previous.Goals as goal

pub returns-then-x-eq0 : goal.returns-then-x-eq0
returns-then-x-eq0 c = back_missing (c.args.s.now) _ _ _ _ (got (c.args.s.now) (c.get-x.ensures) (c.predecessor_at.ensures.at)) (c.if-x-eq0.true)

pub returns-then-count-x : goal.returns-then-count-x
returns-then-count-x c = back_beyond (c.args.s.now) _ _ _ _ (got (c.args.s.now) (c.get-x.ensures) (c.predecessor_at.ensures.at)) (c.if-x-eq0.false) (c.if-count-x.true)

pub returns : goal.returns
returns c = back_element (c.args.s.now) _ _ _ _ (got (c.args.s.now) (c.get-x.ensures) (c.predecessor_at.ensures.at)) (c.if-x-eq0.false) (c.if-count-x.false)
