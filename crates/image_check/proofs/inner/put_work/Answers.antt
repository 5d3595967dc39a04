-- The store is in the part from `at` on; what stands before it is kept.
use Rattle.image_check.proofs.Parts.{rest_put}
use Rattle.image_check.proofs.inner.put_work.Goals as goal

pub returns : goal.returns
returns c = rest_put c.args.b.now c.args.at c.requires c.put.new.s c.args.i c.args.v c.put.ensures
