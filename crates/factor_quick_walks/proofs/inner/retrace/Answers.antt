use Prim.Native.Nat.{◌-◌}
use mathlib.Core.Path.{refl, sym, ◌∙◌}
use native.Mathlib.Omega.{arith}
use Rattle.factor_word_walks.proofs.Walks.{row_more}
use Rattle.factor_quick_walks.proofs.Numbers.{five_above, retrace_start, retrace_last}
use Rattle.factor_quick_walks.proofs.inner.retrace.Goals as goal

pub overflow_add-y : goal.overflow_add-y
overflow_add-y c = omega (arith, c.requires.1.0, c.ranges.count.fits)

pub loop-left-init : goal.loop-left-init
loop-left-init c = (omega arith, (omega (arith, c.requires.1.0), (c.requires.1.1, retrace_start c.args.s.now c.args.n c.args.count c.args.letters c.args.from.0 c.args.e.0)))

pub recorded-c-requires : goal.recorded-c-requires
recorded-c-requires c = (c.requires.0, (c.loop-left.invariant.1.1.0, omega arith))

pub retrace_letters-x-requires : goal.retrace_letters-x-requires
retrace_letters-x-requires c = (c.requires.0, (c.loop-left.invariant.0, c.loop-left.invariant.1.0))

pub returns-then-x-eq0 : goal.returns-then-x-eq0
returns-then-x-eq0 c = λ h. absurd (omega arith)

pub loop-left-preserved : goal.loop-left-preserved
loop-left-preserved c = let found = c.retrace_letters-x.ensures (omega (arith, c.if-x-eq0.false)) in (omega (arith, c.if-x-eq0.false), (found.0, (five_above c.args.n c.args.count c.recorded-c.result found.1.0, row_more c.args.s.now c.args.n c.args.count (c.loop-left.y - 1) c.loop-left.at c.loop-left.invariant.1.1.0 c.recorded-c.ensures found.1.0 c.loop-left-test.true found.1.1 refl ∙ c.loop-left.invariant.1.1.1)))

pub recorded-c-requires-2 : goal.recorded-c-requires-2
recorded-c-requires-2 c = (c.requires.0, (c.loop-left.invariant.1.1.0, omega arith))

pub retrace_letters-x-requires-2 : goal.retrace_letters-x-requires-2
retrace_letters-x-requires-2 c = (c.requires.0, (c.loop-left.invariant.0, c.loop-left.invariant.1.0))

pub returns-then-x-eq0-2 : goal.returns-then-x-eq0-2
returns-then-x-eq0-2 c = λ h. absurd (omega arith)

pub overflow_sub-result : goal.overflow_sub-result
overflow_sub-result c = omega (arith, c.if-x-eq0-2.false)

pub returns : goal.returns
returns c = λ h. let found = c.retrace_letters-x-2.ensures (omega (arith, c.if-x-eq0-2.false)) in sym c.loop-left.invariant.1.1.1 ∙ retrace_last c.args.s.now c.args.n c.args.count (c.loop-left.y - 1) c.loop-left.at c.loop-left.invariant.1.1.0 c.recorded-c-2.ensures found.1.0 c.loop-left-test.false found.1.1
