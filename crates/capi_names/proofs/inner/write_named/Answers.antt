-- By the answer: only what was made has a name.
use mathlib.Core.Path.{refl}
use Rattle.capi_names.proofs.inner.write_named.Goals as goal

pub returns-in-Ok : goal.returns-in-Ok
returns-in-Ok c = rw (c.in-Ok.is) (c.write_made.ensures.0, c.write_made.ensures.1, c.write_name.ensures)

pub returns-in-Err : goal.returns-in-Err
returns-in-Err c = rw (c.in-Err.is) (c.write_made-in-Err.ensures.0, c.write_made-in-Err.ensures.1, refl)
