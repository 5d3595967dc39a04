-- The answer by the outline, as one number.
use mathlib.Core.Path.{ap, ◌∙◌}
use lib.ListN.{length}
use Rattle.egg.specs.Answers.{Reached}
use Rattle.capi_values.specs.Bridge.{reached_code}
use Rattle.subgroup.proofs.Outlines.{over_told}
use Rattle.capi_subgroup.specs.Subgroup.{subgroup_from}
use borrow.Author.Rules.{rules}
use Rattle.capi_subgroup.proofs.hg_subgroup_over.Goals as goal

pub over_by-requires : goal.over_by-requires
over_by-requires c = c.outline_from-o.ensures.1

pub returns : goal.returns
returns c = c.reached_code.ensures ∙ ap (λ (r : Reached). reached_code r) (c.over_by.ensures ∙ over_told (length c.args.from.now) (length c.args.table.now) (subgroup_from c.args.sub.now) c.outline_from-o.ensures.0 c.args.outw.now (record { 0 = c.args.e }) (search rules))
