-- The call's own answer and buffers.
use mathlib.Core.Path.{refl}
use Rattle.capi_group_build.proofs.hg_product_word.Goals as goal

pub returns : goal.returns
returns c = rw (← c.product_of-g.ensures) (rw (c.counted_code.ensures, c.write_word.ensures.0) refl, c.write_word.ensures.1)
