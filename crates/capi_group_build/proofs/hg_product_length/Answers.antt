-- The call's own answer, as one number.
use Rattle.capi_group_build.proofs.hg_product_length.Goals as goal

pub returns : goal.returns
returns c = rw (c.counted_code.ensures, c.word_length.ensures, c.product_of-g.ensures)
