use Prim.Native.Nat.{◌-◌}
use mathlib.Core.Path.{refl, ◌∙◌}
use native.Mathlib.Omega.{arith}
use Rattle.factor_word_letters.proofs.Letters.{put_word, put_here, put_on}
use Rattle.factor_word_letters.proofs.inner.put_letters.Goals as goal

pub loop-init : goal.loop-init
loop-init c = (refl, omega arith, refl)

pub shape_of-out-then-word-eq0 : goal.shape_of-out-then-word-eq0
shape_of-out-then-word-eq0 c = c.loop.invariant.0

pub returns-then-word-eq0 : goal.returns-then-word-eq0
returns-then-word-eq0 c = put_word c.loop.rest c.args.start c.args.offset c.loop.out c.loop.word (5 - c.loop.counter) c.if-word-eq0.true ∙ c.loop.invariant.2

pub overflow_cast-word : goal.overflow_cast-word
overflow_cast-word c = omega (arith, c.loop.invariant.1, c.ranges.left.fits)

pub overflow_add-start : goal.overflow_add-start
overflow_add-start c = omega (arith, c.loop.invariant.1, c.ranges.left.fits, c.requires)

pub loop-preserved : goal.loop-preserved
loop-preserved c = (c.put_byte.auto.out ∙ c.loop.invariant.0, omega (arith, c.loop.invariant.1), put_on c.loop.rest c.args.start c.args.offset c.loop.out c.loop.word (5 - c.loop.counter) c.if-word-eq0.false (omega (arith, c.loop-test.true)) c.put_byte.ensures ∙ c.loop.invariant.2)

pub shape_of-out : goal.shape_of-out
shape_of-out c = c.loop.invariant.0

pub returns : goal.returns
returns c = put_here c.loop.rest c.args.start c.args.offset c.loop.out c.loop.word (5 - c.loop.counter) (omega (arith, c.loop-test.false)) ∙ c.loop.invariant.2
