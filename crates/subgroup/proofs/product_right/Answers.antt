-- One law for each answer.
use mathlib.Core.Path.{sym, ◌∙◌}
use lib.ListN.{length}
use Rattle.subgroup_sides.proofs.SideLaws.{right_handle, right_group, right_is}
use Rattle.subgroup.proofs.product_right.Goals as goal

pub returns-then-not-sides_fit : goal.returns-then-not-sides_fit
returns-then-not-sides_fit c = right_handle (length c.args.from.now) (length c.args.table.now) c.args.g c.args.s (sym c.sides_fit.ensures ∙ c.if-not-sides_fit.true)

pub returns-then-not-all_fit : goal.returns-then-not-all_fit
returns-then-not-all_fit c = right_group (length c.args.from.now) (length c.args.table.now) c.args.g c.args.s (sym c.sides_fit.ensures ∙ c.if-not-sides_fit.false) (sym c.all_fit.ensures ∙ c.if-not-all_fit.true)

pub returns : goal.returns
returns c = c.right_of.ensures ∙ right_is (length c.args.from.now) (length c.args.table.now) c.args.g c.args.s (sym c.sides_fit.ensures ∙ c.if-not-sides_fit.false) (sym c.all_fit.ensures ∙ c.if-not-all_fit.false)
