-- The answer by the outline, as one number.
use mathlib.Core.Path.{ap, ◌∙◌}
use lib.ListN.{length}
use Rattle.subgroup.specs.Answers.{Within}
use Rattle.capi_subgroup.specs.Subgroup.{within_code}
use Rattle.subgroup.proofs.Outlines.{back_told}
use Rattle.capi_subgroup.specs.Subgroup.{subgroup_from}
use borrow.Author.Rules.{rules}
use Rattle.capi_subgroup.proofs.hg_subgroup_back.Goals as goal

pub back_by-requires : goal.back_by-requires
back_by-requires c = c.outline_from-o.ensures.1

pub returns : goal.returns
returns c = c.within_code.ensures ∙ ap (λ (r : Within). within_code r) (c.back_by.ensures ∙ back_told (length c.args.from.now) (length c.args.table.now) (subgroup_from c.args.sub.now) c.outline_from-o.ensures.0 c.args.inn.now (record { 0 = c.args.x }) (search rules))
