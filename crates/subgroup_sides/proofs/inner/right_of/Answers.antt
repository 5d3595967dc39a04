-- The joined handles stand above.
use mathlib.Core.Path.{sym, ◌∙◌}
use Rattle.subgroup_sides.specs.Sides.{put_right}
use Rattle.subgroup_sides.proofs.SideLaws.{multiplied_no, multiplied_is, join_fits}
use Rattle.subgroup_sides.proofs.inner.right_of.Goals as goal

pub returns-then-not-joinable : goal.returns-then-not-joinable
returns-then-not-joinable c = multiplied_no c.args.s.above c.args.g (put_right c.args.s c.args.g) (sym c.joinable.ensures ∙ c.if-not-joinable.true)

pub joined-above-requires : goal.joined-above-requires
joined-above-requires c = join_fits c.args.s.above c.args.g (sym c.joinable.ensures ∙ c.if-not-joinable.false)

pub returns : goal.returns
returns c = multiplied_is c.args.s.above c.args.g (put_right c.args.s c.args.g) (sym c.joinable.ensures ∙ c.if-not-joinable.false) (rw c.joined-above.ensures) c.if_limited.ensures
