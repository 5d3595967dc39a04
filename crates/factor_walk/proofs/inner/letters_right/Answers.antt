use Rattle.egg.proofs.Scans.{stops, goes_on, ends}
use Rattle.factor_walk.proofs.Letters.{letters_begin, letter_wrong, letter_right_lem}
use Rattle.factor_walk.proofs.inner.letters_right.Goals as goal

pub loop-i-init : goal.loop-i-init
loop-i-init c = letters_begin (c.args.n) (c.args.word.now)

pub returns-then-n-g : goal.returns-then-n-g
returns-then-n-g c = stops (c.loop-i.invariant) (c.loop-i-test.true) (letter_wrong (c.args.n) (c.args.word.now) (c.loop-i.i) (c.wide-g.ensures) (c.shown.ensures) (c.if-n-g.true))

pub loop-i-preserved : goal.loop-i-preserved
loop-i-preserved c = goes_on (c.loop-i.invariant) (c.loop-i-test.true) (letter_right_lem (c.args.n) (c.args.word.now) (c.loop-i.i) (c.wide-g.ensures) (c.if-n-g.false))

pub returns : goal.returns
returns c = ends (c.loop-i.invariant) (c.loop-i-test.false)
