-- What `builder::build` makes, with the name beside it.
use mathlib.Core.Path.{refl}
use Rattle.egg.proofs.Refusing.{handed_on}
use Rattle.names.specs.Making.{named_builds}
use Rattle.names.proofs.Makes.{makes_with, makes_none}
use Rattle.names.proofs.build.Goals as goal

pub returns-in_err-factor : goal.returns-in_err-factor
unfolding named_builds
returns-in_err-factor c = rw (handed_on c.from_residual.ensures) (makes_none c.build.ensures c.args.b.name c.in_err-factor.was)

pub returns : goal.returns
unfolding named_builds
returns c = makes_with c.build.ensures c.in_ok-factor.was refl
