-- The table before `at`, the work from there on.
use mathlib.Core.Path.{sym}
use lib.Seq.{length-take-le}
use Rattle.image_check.proofs.Parts.{rest_lent}
use Rattle.image_check.proofs.inner.hint_at.Goals as goal

pub slice_bounds-hint_of-end : goal.slice_bounds-hint_of-end
slice_bounds-hint_of-end c = sym (length-take-le c.args.at c.args.b.now c.requires)

pub returns : goal.returns
returns c = rw (rest_lent c.args.b.now c.args.at c.requires) at c.hint_of.ensures
