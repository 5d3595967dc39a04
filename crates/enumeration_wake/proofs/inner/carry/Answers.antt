use Rattle.std.proofs.Common.{refl, ◌∙◌, suc-le-suc, le_refl, arith}
use Rattle.enumeration_wake.proofs.inner.carry.Goals as goal

pub loop-leg-init : goal.loop-leg-init
loop-leg-init c = (refl, (le_refl _, (refl, c.worth_carrying.ensures)))

pub carry_leg-leg-requires : goal.carry_leg-leg-requires
carry_leg-leg-requires c = record { filling = c.requires (c.loop-leg.invariant.1.1.1 (c.loop-leg-test.true)); apart = c.loop-leg.invariant.1.1.1 (c.loop-leg-test.true) }

pub loop-leg-smaller : goal.loop-leg-smaller
loop-leg-smaller c = rw (c.loop-leg-test.true) (suc-le-suc (c.carry_leg-leg.ensures.1.1))

pub loop-leg-preserved : goal.loop-leg-preserved
loop-leg-preserved c = (c.carry_leg-leg.ensures.0 ∙ c.loop-leg.invariant.0, (omega (arith, c.carry_leg-leg.ensures.1.0, c.loop-leg.invariant.1.0), (c.carry_leg-leg.auto.w ∙ c.loop-leg.invariant.1.1.0, λ h. c.loop-leg.invariant.1.1.1 (c.loop-leg-test.true))))

pub shape_of-w : goal.shape_of-w
shape_of-w c = c.loop-leg.invariant.1.1.0

pub returns : goal.returns
returns c = (c.loop-leg.invariant.0, c.loop-leg.invariant.1.0)
