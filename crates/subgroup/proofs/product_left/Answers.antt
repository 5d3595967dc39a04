-- One law for each answer.
use mathlib.Core.Path.{sym, ◌∙◌}
use lib.ListN.{length}
use Rattle.subgroup_sides.proofs.SideLaws.{left_handle, left_group, left_is}
use Rattle.subgroup.proofs.product_left.Goals as goal

pub returns-then-not-sides_fit : goal.returns-then-not-sides_fit
returns-then-not-sides_fit c = left_handle (length c.args.from.now) (length c.args.table.now) c.args.g c.args.s (sym c.sides_fit.ensures ∙ c.if-not-sides_fit.true)

pub returns-then-not-all_fit : goal.returns-then-not-all_fit
returns-then-not-all_fit c = left_group (length c.args.from.now) (length c.args.table.now) c.args.g c.args.s (sym c.sides_fit.ensures ∙ c.if-not-sides_fit.false) (sym c.all_fit.ensures ∙ c.if-not-all_fit.true)

pub returns : goal.returns
returns c = c.left_of.ensures ∙ left_is (length c.args.from.now) (length c.args.table.now) c.args.g c.args.s (sym c.sides_fit.ensures ∙ c.if-not-sides_fit.false) (sym c.all_fit.ensures ∙ c.if-not-all_fit.false)
