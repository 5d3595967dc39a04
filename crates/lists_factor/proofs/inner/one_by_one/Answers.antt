use Rattle.lists.proofs.Places.{none_yet, all_places, right_here}
use Rattle.egg.proofs.Rooms.{false_true}
use native.Mathlib.Omega.{arith}
use mathlib.Core.Path.{refl, ◌∙◌}
use lib.ListN.{length-set}
use Rattle.lists_factor.proofs.inner.one_by_one.Goals as goal

pub loop-i-init : goal.loop-i-init
loop-i-init c = (none_yet, refl)

pub bounds-b-i : goal.bounds-b-i
bounds-b-i c = omega (arith, c.loop-i-test.true, c.requires.0)

pub shape_of-results-then-f-product : goal.shape_of-results-then-f-product
shape_of-results-then-f-product c = c.loop-i.invariant.1

pub returns-then-f-product : goal.returns-then-f-product
returns-then-f-product c = λ h. absurd (false_true h)

pub bounds-results-i : goal.bounds-results-i
bounds-results-i c = omega (arith, c.loop-i-test.true, c.requires.1, c.loop-i.invariant.1)

pub loop-i-preserved : goal.loop-i-preserved
loop-i-preserved c = (right_here (c.loop-i.invariant.0) (omega (arith, c.loop-i-test.true, c.requires.1, c.loop-i.invariant.1)) (c.product_at_once-product.ensures (omega (arith, c.if-f-product.false))), length-set (c.loop-i.results) (c.loop-i.i) (c.product_at_once-product.result) ∙ c.loop-i.invariant.1)

pub shape_of-results : goal.shape_of-results
shape_of-results c = c.loop-i.invariant.1

pub returns : goal.returns
returns c = λ h. all_places (c.loop-i.invariant.0) (omega (arith, c.loop-i-test.false))
