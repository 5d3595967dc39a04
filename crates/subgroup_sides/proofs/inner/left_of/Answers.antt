-- The joined handles stand below.
use mathlib.Core.Path.{sym, ◌∙◌}
use Rattle.subgroup_sides.specs.Sides.{put_left}
use Rattle.subgroup_sides.proofs.SideLaws.{multiplied_no, multiplied_is, join_fits}
use Rattle.subgroup_sides.proofs.inner.left_of.Goals as goal

pub returns-then-not-joinable : goal.returns-then-not-joinable
returns-then-not-joinable c = multiplied_no c.args.g c.args.s.below (put_left c.args.g c.args.s) (sym c.joinable.ensures ∙ c.if-not-joinable.true)

pub joined-below-requires : goal.joined-below-requires
joined-below-requires c = join_fits c.args.g c.args.s.below (sym c.joinable.ensures ∙ c.if-not-joinable.false)

pub returns : goal.returns
returns c = multiplied_is c.args.g c.args.s.below (put_left c.args.g c.args.s) (sym c.joinable.ensures ∙ c.if-not-joinable.false) (rw c.joined-below.ensures) c.if_limited.ensures
