-- The call's own answer and buffers.
use mathlib.Core.Path.{refl}
use Rattle.capi_group_build.proofs.hg_product_split.Goals as goal

pub returns : goal.returns
returns c = rw (← c.product_of-g.ensures) (rw (c.counted_code.ensures, c.split.ensures.0) refl, c.split.ensures.1)
