use mathlib.Core.Path.{refl, ◌∙◌}
use native.Mathlib.Nat.{sub-zero, sub-eq-zero_of_le}
use Rattle.build_checks_group.specs.Lefts.{fill_left}
use Rattle.egg.proofs.Scans.{left_suc}
use Rattle.image_check.proofs.inner.fill_left.Goals as goal

pub loop-x-init : goal.loop-x-init
loop-x-init c = (refl, refl, rw sub-zero)

pub left_at-y-requires : goal.left_at-y-requires
left_at-y-requires c = rw c.loop-x.invariant.0 c.requires

pub put_work-requires : goal.put_work-requires
put_work-requires c = rw c.loop-x.invariant.0 c.requires

pub loop-x-preserved : goal.loop-x-preserved
unfolding fill_left
loop-x-preserved c = (c.put_work.auto.b ∙ c.loop-x.invariant.0, c.put_work.ensures.0 ∙ c.loop-x.invariant.1, rw (c.put_work.ensures.1, c.left_at-y.ensures, c.loop-x.invariant.1) (rw (left_suc c.loop-x-test.true) at c.loop-x.invariant.2))

pub shape_of-b : goal.shape_of-b
shape_of-b c = c.loop-x.invariant.0

pub returns : goal.returns
unfolding fill_left
returns c = (c.loop-x.invariant.1, rw (sub-eq-zero_of_le c.loop-x-test.false) at c.loop-x.invariant.2)
