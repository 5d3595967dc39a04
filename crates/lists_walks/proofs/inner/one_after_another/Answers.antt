use mathlib.Core.Path.{refl}
use native.Mathlib.Omega.{arith}
use lib.ListN.{length-set}
use Rattle.egg.proofs.Rooms.{false_true}
use Rattle.lists_walks.proofs.Lanes.{ready_kept, right_more}
use Rattle.lists_walks.proofs.inner.one_after_another.Goals as goal

pub loop-i-init : goal.loop-i-init
loop-i-init c = (omega arith, (c.requires, (refl, λ j h. absurd (omega arith))))

pub bounds-b-i : goal.bounds-b-i
bounds-b-i c = omega (arith, c.loop-i.invariant.1.0.paired)

pub shape_of-results-then-count-first : goal.shape_of-results-then-count-first
shape_of-results-then-count-first c = c.loop-i.invariant.1.1.0

pub returns-then-count-first : goal.returns-then-count-first
returns-then-count-first c = λ h. absurd (false_true h)

pub shape_of-results-then-count-second : goal.shape_of-results-then-count-second
shape_of-results-then-count-second c = c.loop-i.invariant.1.1.0

pub returns-then-count-second : goal.returns-then-count-second
returns-then-count-second c = λ h. absurd (false_true h)

pub shape_of-results-then-count-x : goal.shape_of-results-then-count-x
shape_of-results-then-count-x c = c.loop-i.invariant.1.1.0

pub returns-then-count-x : goal.returns-then-count-x
returns-then-count-x c = λ h. absurd (false_true h)

pub bounds-results-i : goal.bounds-results-i
bounds-results-i c = omega (arith, c.loop-i.invariant.1.0.room)

pub loop-i-preserved : goal.loop-i-preserved
loop-i-preserved c = (omega arith, (ready_kept (c.loop-i.invariant.1.0) (simp length-set), (simp length-set (c.loop-i.invariant.1.1.0), λ j h. right_more (c.loop-i.invariant.1.0) c.loop-i-test.true (record { first = c.if-count-first.false; second = c.if-count-second.false; product = c.number-x.ensures c.if-count-x.false }) j (c.loop-i.invariant.1.1.1 j) h)))

pub shape_of-results : goal.shape_of-results
shape_of-results c = c.loop-i.invariant.1.1.0

pub returns : goal.returns
returns c = λ h. record { each = λ j k. c.loop-i.invariant.1.1.1 j (omega (arith, c.loop-i-test.false)) }
