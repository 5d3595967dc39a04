-- By the two cases of what was made.
use mathlib.Core.Path.{refl}
use Rattle.build_numbering.proofs.inner.settle.Goals as goal

pub returns-in-Err : goal.returns-in-Err
returns-in-Err c = rw c.in-Err.is (refl, (c.clear.ensures, c.clear-in-Err.ensures))

pub returns-in-Ok : goal.returns-in-Ok
returns-in-Ok c = rw c.in-Ok.is (refl, (refl, refl))
