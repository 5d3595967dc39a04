use Rattle.egg.proofs.Refusing.{handed_on}
use mathlib.Core.Path.{refl, ◌∙◌}
use Rattle.factor_word_walks.proofs.Walks.{follow_end, follow_stops, follow_on}
use Rattle.factor_word_walks.proofs.inner.follow.Goals as goal

pub loop-i-init : goal.loop-i-init
loop-i-init c = refl

pub returns-in_err-x : goal.returns-in_err-x
returns-in_err-x c = handed_on c.from_residual.ensures ∙ follow_stops (c.args.s.now) (c.args.n) (c.args.count) (c.loop-i.x.0) (c.args.word.now) (c.loop-i.i) (c.loop-i-test.true) refl (c.next.ensures) (c.in_err-x.was) ∙ c.loop-i.invariant

pub loop-i-preserved : goal.loop-i-preserved
loop-i-preserved c = follow_on (c.args.s.now) (c.args.n) (c.args.count) (c.loop-i.x.0) (c.args.word.now) (c.loop-i.i) (c.loop-i-test.true) refl (c.next.ensures) (c.in_ok-x.was) ∙ c.loop-i.invariant

pub returns : goal.returns
returns c = follow_end (c.args.s.now) (c.args.n) (c.args.count) (c.loop-i.x.0) (c.args.word.now) (c.loop-i.i) (c.loop-i-test.false) ∙ c.loop-i.invariant
