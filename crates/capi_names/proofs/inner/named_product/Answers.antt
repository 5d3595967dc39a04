-- The handles, and eight names.
use Rattle.capi_names.specs.Names.{named_product}
use Rattle.capi_names.proofs.inner.named_product.Goals as goal

pub returns : goal.returns
unfolding named_product
returns c = rw (c.product_of-group.ensures, c.name_at.ensures, c.name_at-2.ensures, c.name_at-3.ensures, c.name_at-4.ensures, c.name_at-5.ensures, c.name_at-6.ensures, c.name_at-7.ensures, c.name_at-8.ensures)
