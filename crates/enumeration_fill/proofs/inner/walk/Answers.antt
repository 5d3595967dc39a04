use Rattle.std.proofs.Common.{refl, ◌∙◌, suc-le-suc}
use Rattle.enumeration_fill.proofs.inner.walk.Goals as goal

pub loop-leg-init : goal.loop-leg-init
loop-leg-init c = refl

pub walk_leg-leg-requires : goal.walk_leg-leg-requires
walk_leg-leg-requires c = c.requires

pub loop-leg-smaller : goal.loop-leg-smaller
loop-leg-smaller c = rw c.loop-leg-test.true (suc-le-suc c.walk_leg-leg.ensures.1)

pub loop-leg-preserved : goal.loop-leg-preserved
loop-leg-preserved c = c.walk_leg-leg.ensures.0 ∙ rw c.loop-leg-test.true at c.loop-leg.invariant

pub returns : goal.returns
returns c = rw c.loop-leg-test.false at c.loop-leg.invariant
