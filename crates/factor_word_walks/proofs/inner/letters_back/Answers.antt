use Prim.Native.Nat.{◌-◌}
use mathlib.Core.Path.{◌≡◌}
use native.Mathlib.Omega.{arith}
use Rattle.egg.proofs.Refusing.{handed_on}
use Rattle.factor_word_walks.proofs.Walks.{letters_end, letters_refused, letters_next}
use Rattle.factor_word_walks.proofs.inner.letters_back.Goals as goal

pub loop-init : goal.loop-init
loop-init c = let d : c.args.letters - 0 ≡ c.args.letters = omega arith in λ r L. rw (← d) L

pub returns-in_err-x : goal.returns-in_err-x
returns-in_err-x c = rw (handed_on c.from_residual.ensures) (c.loop.invariant _ (letters_refused (c.args.s.now) (c.args.n) (c.args.count) (c.loop.x.0) (c.loop.c) {left = c.args.letters - c.loop.counter} (omega (arith, c.loop-test.true)) (c.previous.ensures) (c.in_err-x.was)))

pub loop-preserved : goal.loop-preserved
loop-preserved c = λ r L. c.loop.invariant r (letters_next (c.args.s.now) (c.args.n) (c.args.count) (c.loop.x.0) (c.loop.c) {left = c.args.letters - c.loop.counter} (omega (arith, c.loop-test.true)) (c.previous.ensures) (omega arith) (c.in_ok-x.was) L)

pub returns : goal.returns
returns c = c.loop.invariant _ (letters_end (c.args.s.now) (c.args.n) (c.args.count) (c.loop.x.0) (c.loop.c) {left = c.args.letters - c.loop.counter} (omega (arith, c.loop-test.false)))
