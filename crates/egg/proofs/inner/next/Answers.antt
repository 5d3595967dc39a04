use Rattle.egg.proofs.Laws.{got}
use Rattle.egg.proofs.Answers.{read_missing, read_beyond, read_element}
use Rattle.egg.proofs.inner.next.Goals as goal

pub returns-then-x-eq0 : goal.returns-then-x-eq0
returns-then-x-eq0 c = read_missing c.args.s.now _ _ _ _ (got c.args.s.now c.get-x.ensures c.successor_at.ensures.at) c.if-x-eq0.true

pub returns-then-count-x : goal.returns-then-count-x
returns-then-count-x c = read_beyond c.args.s.now _ _ _ _ (got c.args.s.now c.get-x.ensures c.successor_at.ensures.at) c.if-x-eq0.false c.if-count-x.true

pub returns : goal.returns
returns c = read_element c.args.s.now _ _ _ _ (got c.args.s.now c.get-x.ensures c.successor_at.ensures.at) c.if-x-eq0.false c.if-count-x.false
