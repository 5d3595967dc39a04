-- The parts stand in their places, and a refusal stands.
use Rattle.egg.proofs.Refusing.{handed_on}
use Rattle.subgroup_build.proofs.inner.subgroup_of.Goals as goal

pub returns-in_err-factor : goal.returns-in_err-factor
returns-in_err-factor c = rw (handed_on c.from_residual.ensures, c.in_err-factor.was)

pub returns : goal.returns
returns c = rw (c.in_ok-factor.was, c.trivial-none.ensures)
