use mathlib.Core.Path.{refl, sym, ◌∙◌}
use native.Mathlib.Nat.{mod-lt}
use native.Mathlib.Omega.{arith}
use Rattle.group_periods.proofs.Periods.{gcd_next, gcd_end}
use Rattle.group_periods.proofs.inner.gcd.Goals as goal

pub loop-y-init : goal.loop-y-init
loop-y-init c = refl

pub nonzero_rem-r : goal.nonzero_rem-r
nonzero_rem-r c = omega (arith, c.loop-y-test.true)

pub loop-y-smaller : goal.loop-y-smaller
loop-y-smaller c = mod-lt c.loop-y.x c.loop-y-test.true

pub loop-y-preserved : goal.loop-y-preserved
loop-y-preserved c = sym (gcd_next c.loop-y.x c.loop-y.y c.loop-y-test.true refl) ∙ c.loop-y.invariant

pub returns : goal.returns
returns c = gcd_end c.loop-y.x c.loop-y.y c.loop-y-test.false ∙ c.loop-y.invariant
