-- Eight handles.
use Rattle.capi_handles.specs.Product.{product_at}
use Rattle.capi_handles.proofs.inner.product_at.Goals as goal

pub returns : goal.returns
unfolding product_at
returns c = rw (c.handle_at.ensures, c.handle_at-2.ensures, c.handle_at-3.ensures, c.handle_at-4.ensures, c.handle_at-5.ensures, c.handle_at-6.ensures, c.handle_at-7.ensures, c.handle_at-8.ensures)
