-- The table before `at`, the work from there on.
use mathlib.Core.Path.{sym}
use lib.Seq.{length-take-le}
use Rattle.image_check.proofs.Parts.{rest_lent}
use Rattle.image_check.proofs.inner.inverted_at.Goals as goal

pub slice_bounds-inverse_by-end : goal.slice_bounds-inverse_by-end
slice_bounds-inverse_by-end c = sym (length-take-le c.args.at c.args.b.now c.requires)

pub returns : goal.returns
returns c = rw (rest_lent c.args.b.now c.args.at c.requires) at c.inverse_by.ensures
