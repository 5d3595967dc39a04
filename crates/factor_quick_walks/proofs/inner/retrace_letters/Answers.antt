use Prim.Native.Nat.{◌-◌}
use mathlib.Core.Path.{refl}
use native.Mathlib.Omega.{arith}
use Rattle.factor_quick_walks.proofs.Numbers.{cell_end, cell_more}
use Rattle.factor_word_walks.proofs.Walks.{back_element, letters_end, letters_more}
use Rattle.factor_quick_walks.proofs.inner.retrace_letters.Goals as goal

pub loop-left-init : goal.loop-left-init
loop-left-init c = (c.requires.1.0, (c.requires.1.1, (λ r L. L, λ m t. t)))

pub returns-then-n-letter : goal.returns-then-n-letter
returns-then-n-letter c = λ h. absurd (omega arith)

pub stored_step-x-requires : goal.stored_step-x-requires
stored_step-x-requires c = (c.requires.0, (c.loop-left.invariant.0, (c.loop-left.invariant.1.0, (c.if-n-letter.false, omega arith))))

pub returns-then-x-eq0 : goal.returns-then-x-eq0
returns-then-x-eq0 c = λ h. absurd (omega arith)

pub returns-then-count-x : goal.returns-then-count-x
returns-then-count-x c = λ h. absurd (omega arith)

pub loop-left-preserved : goal.loop-left-preserved
loop-left-preserved c = (omega (arith, c.if-x-eq0.false), (c.if-count-x.false, (λ r L. c.loop-left.invariant.1.1.0 r (letters_more c.args.s.now c.args.n c.args.count (c.loop-left.y - 1) c.loop-left.c c.loop-left-test.true (back_element c.args.s.now c.args.n c.args.count (c.loop-left.y - 1) _ c.stored_step-x.ensures c.if-x-eq0.false c.if-count-x.false) refl L), λ m t. c.loop-left.invariant.1.1.1 m (cell_more c.args.n m c.loop-left.c c.loop-left-test.true c.if-n-letter.false t))))

pub returns-then-limit-c : goal.returns-then-limit-c
returns-then-limit-c c = λ h. absurd (omega arith)

pub returns : goal.returns
returns c = λ h. (c.loop-left.invariant.1.0, (c.loop-left.invariant.1.1.1 c.args.limit (cell_end c.args.n c.args.limit c.loop-left.c c.loop-left-test.false c.if-limit-c.false), c.loop-left.invariant.1.1.0 _ (letters_end c.args.s.now c.args.n c.args.count (c.loop-left.y - 1) c.loop-left.c c.loop-left-test.false)))
