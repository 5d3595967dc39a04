use Rattle.enumeration_wake.proofs.WakeLaws.{pos, woken_table, wakes_by, wake_turn, wake_end, wake_spent}
use Rattle.enumeration_wake.specs.Waking.{state}
use Rattle.enumeration_fill.specs.Fill.{filled}
use native.Mathlib.Omega.{arith}
use borrow.Author.Rules.{rules}
use mathlib.Core.List.{List}
use mathlib.Core.Path.{refl, sym, ap, ◌∙◌}
use Prim.Native.Nat.{ℕ, ◌-◌}
use Rattle.enumeration_facts.proofs.inner.wake_all.Goals as goal

pub loop-left-init : goal.loop-left-init
loop-left-init c = (refl, (refl, (refl, search rules)))

pub shape_of-t-then-at-eq0 : goal.shape_of-t-then-at-eq0
shape_of-t-then-at-eq0 c = c.loop-left.invariant.1.0

pub shape_of-w-then-at-eq0 : goal.shape_of-w-then-at-eq0
shape_of-w-then-at-eq0 c = c.loop-left.invariant.1.1.0

pub returns-then-at-eq0 : goal.returns-then-at-eq0
returns-then-at-eq0 c = sym (wake_end (c.args.n) (c.loop-left.at) (c.args.side) (state (c.loop-left.t) (c.loop-left.w) (c.loop-left.top)) (c.loop-left.left) (c.if-at-eq0.true)) ∙ c.loop-left.invariant.0

pub overflow_sub-place : goal.overflow_sub-place
overflow_sub-place c = pos (c.loop-left.at) (c.if-at-eq0.false)

pub overflow_cast-place : goal.overflow_cast-place
overflow_cast-place c = omega (arith, c.loop-left.invariant.1.1.1)

pub overflow_add-place : goal.overflow_add-place
overflow_add-place c = omega (arith, c.loop-left.invariant.1.1.1)

pub read_row-before-requires : goal.read_row-before-requires
read_row-before-requires c = omega (arith, c.loop-left.invariant.1.1.1)

pub wake-top-requires : goal.wake-top-requires
wake-top-requires c = omega (arith, c.loop-left.invariant.1.1.1)

pub overflow_sub-left : goal.overflow_sub-left
overflow_sub-left c = pos (c.loop-left.left) (c.loop-left-test.true)

pub carry-rest-requires : goal.carry-rest-requires
carry-rest-requires c = λ h. c.fill-after.ensures ∙ ap (λ (l : List ℕ). filled l (c.args.n) (c.read_row-before.result)) (sym (woken_table (c.args.n) (c.loop-left.at - 1) (c.args.side) (state (c.loop-left.t) (c.loop-left.w) (c.loop-left.top)) (c.fill-after.result) (λ e. omega (arith, h, e)) (c.wake-top.ensures)))

pub loop-left-smaller : goal.loop-left-smaller
loop-left-smaller c = omega (arith, c.carry-rest.ensures.1, pos (c.loop-left.left) (c.loop-left-test.true))

pub loop-left-preserved : goal.loop-left-preserved
loop-left-preserved c = (c.carry-rest.ensures.0 ∙ wake_turn (c.args.n) (c.loop-left.at) (c.args.side) (state (c.loop-left.t) (c.loop-left.w) (c.loop-left.top)) (c.loop-left.left) (c.loop-left-test.true) (c.if-at-eq0.false) (c.get-next.ensures) (wakes_by (c.args.n) (c.loop-left.at - 1) (c.args.side) (state (c.loop-left.t) (c.loop-left.w) (c.loop-left.top)) (c.fill-after.result) (c.read_row-before.ensures) (c.fill-after.ensures) (c.wake-top.ensures)) ∙ c.loop-left.invariant.0, (c.wake-top.auto.t ∙ c.loop-left.invariant.1.0, (c.carry-rest.auto.w ∙ c.wake-top.auto.w ∙ c.loop-left.invariant.1.1.0, search rules)))

pub shape_of-t : goal.shape_of-t
shape_of-t c = c.loop-left.invariant.1.0

pub shape_of-w : goal.shape_of-w
shape_of-w c = c.loop-left.invariant.1.1.0

pub returns : goal.returns
returns c = sym (wake_spent (c.args.n) (c.loop-left.at) (c.args.side) (state (c.loop-left.t) (c.loop-left.w) (c.loop-left.top)) (c.loop-left.left) (c.loop-left-test.false)) ∙ c.loop-left.invariant.0
