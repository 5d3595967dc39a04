-- The call's own answer, as one number, and its buffer.
use mathlib.Core.Path.{refl}
use Rattle.capi_image.proofs.hg_image_write.Goals as goal

pub returns : goal.returns
returns c = rw (← c.factor_of-f.ensures) (rw (c.counted_code.ensures, c.write.ensures.0) refl, c.write.ensures.1)
