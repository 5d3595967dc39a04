-- `power` calls itself with half of the exponent, which is the measure.
use Rattle.group_powers.proofs.inner.+power.Given as goal

abbrev pub decreases-power : goal.decreases-power
decreases-power l = l.k
