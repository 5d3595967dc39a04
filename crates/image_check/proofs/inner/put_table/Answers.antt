-- The store is in the part before `at`; what stands from there on is kept.
use mathlib.Core.Path.{sym}
use lib.Seq.{length-take-le}
use Rattle.image_check.proofs.Parts.{front_put}
use Rattle.image_check.proofs.inner.put_table.Goals as goal

pub slice_bounds-put-end-2 : goal.slice_bounds-put-end-2
slice_bounds-put-end-2 c = sym (length-take-le c.args.at c.args.b.now c.requires)

pub returns : goal.returns
returns c = front_put c.args.b.now c.args.at c.requires c.put.new.s c.put.auto.s c.args.i c.args.v
    c.put.ensures
