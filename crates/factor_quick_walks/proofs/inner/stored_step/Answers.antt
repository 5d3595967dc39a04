use native.Mathlib.Omega.{arith}
use Rattle.egg.proofs.Laws.{got}
use Rattle.factor_quick_walks.proofs.Numbers.{stored_before, stored_inside, stored_place}
use Rattle.factor_quick_walks.proofs.inner.stored_step.Goals as goal

pub overflow_sub-start : goal.overflow_sub-start
overflow_sub-start c = stored_before c.args.n c.start.ensures.at c.requires.1.0 (omega arith)

pub read-requires : goal.read-requires
read-requires c = stored_inside c.args.n c.start.ensures.at c.requires.1.0 (omega arith) c.requires.0 c.requires.1.1.0 (omega (arith, c.requires.1.1.1.0, c.requires.1.1.1.1))

pub returns : goal.returns
returns c = got c.args.s.now c.read.ensures (stored_place c.args.n c.start.ensures.at c.requires.1.0 (omega arith) (omega (arith, c.requires.1.1.1.0, c.requires.1.1.1.1)))
