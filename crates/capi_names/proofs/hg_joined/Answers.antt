-- The call's own answer, as one number, and its buffer.
use mathlib.Core.Path.{refl}
use Rattle.capi_names.proofs.hg_joined.Goals as goal

pub returns : goal.returns
returns c = rw (← c.named_product-g.ensures) (rw (c.counted_code.ensures, c.write_joined.ensures.0) refl, c.write_joined.ensures.1)
