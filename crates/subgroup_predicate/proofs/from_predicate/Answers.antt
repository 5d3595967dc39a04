-- The verdict on the handles decides.
use Rattle.egg.proofs.Refusing.{handed_on}
use mathlib.Core.Path.{◌∙◌}
use lib.ListN.{length}
use Rattle.subgroup_predicate.specs.Predicate.{from_predicate}
use Rattle.subgroup_build.proofs.Admits.{small_elements}
use Rattle.subgroup_build.proofs.Lendings.{subgrouping_refused, subgrouping_fine}
use Rattle.subgroup_predicate.proofs.Told.{over_admitted}
use Rattle.subgroup_predicate.proofs.from_predicate.Goals as goal

pub returns-in_err-admit_over : goal.returns-in_err-admit_over
unfolding from_predicate
returns-in_err-admit_over c = rw (handed_on c.from_residual.ensures) (subgrouping_refused c.admit_over.ensures c.args.table.now c.args.work.now c.args.inn.now c.args.outw.now _ c.in_err-admit_over.was)

pub told_into-requires : goal.told_into-requires
told_into-requires c = let A = over_admitted (length c.args.from.now) c.args.over c.admit_over.ensures c.in_ok-admit_over.was in (A.0, small_elements c.args.over A.1)

pub returns : goal.returns
unfolding from_predicate
returns c = c.told_into.ensures ∙ subgrouping_fine c.admit_over.ensures c.args.table.now c.args.work.now c.args.inn.now c.args.outw.now _ c.in_ok-admit_over.was
