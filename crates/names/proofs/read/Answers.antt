-- What `image::read` makes, with the empty name beside it.
use mathlib.Core.Path.{refl}
use Rattle.egg.proofs.Refusing.{handed_on}
use Rattle.names_values.specs.Names.{no_name}
use Rattle.names.specs.Making.{named_read}
use Rattle.names.proofs.Makes.{makes_with, makes_none}
use Rattle.names.proofs.read.Goals as goal

pub returns-in_err-factor : goal.returns-in_err-factor
unfolding named_read
returns-in_err-factor c = rw (handed_on c.from_residual.ensures) (makes_none c.read.ensures no_name c.in_err-factor.was)

pub returns : goal.returns
unfolding named_read
returns c = rw (c.unnamed.ensures) (makes_with c.read.ensures c.in_ok-factor.was refl)
