-- The counts tell it, since a group has eight handles.
use mathlib.Core.Path.{◌∙◌}
use borrow.Author.Rules.{rules}
use Rattle.subgroup_sides.proofs.Few.{few_counts}
use Rattle.subgroup_sides.proofs.inner.few_factors.Goals as goal

pub returns : goal.returns
returns c = c.few_of.ensures ∙ few_counts c.args.s (search rules) (search rules) (search rules)
