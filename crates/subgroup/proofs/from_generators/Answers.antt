-- The verdict on the arguments decides.
use Rattle.egg.proofs.Refusing.{handed_on}
use mathlib.Core.Path.{◌∙◌}
use lib.ListN.{length}
use Rattle.subgroup_build.specs.Generated.{from_generators}
use Rattle.subgroup_build.proofs.Admits.{admitted_by, small_elements}
use Rattle.subgroup_build.proofs.Lendings.{subgrouping_refused, subgrouping_fine}
use Rattle.subgroup.proofs.from_generators.Goals as goal

pub returns-in_err-admit_generators : goal.returns-in_err-admit_generators
unfolding from_generators
returns-in_err-admit_generators c = rw (handed_on c.from_residual.ensures) (subgrouping_refused c.admit_generators.ensures c.args.table.now c.args.work.now c.args.inn.now c.args.outw.now _ c.in_err-admit_generators.was)

pub generated_into-requires : goal.generated_into-requires
generated_into-requires c = let A = admitted_by (length c.args.from.now) c.args.over c.args.gens.now c.admit_generators.ensures c.in_ok-admit_generators.was in (A.fits, small_elements c.args.over A.small)

pub returns : goal.returns
unfolding from_generators
returns c = c.generated_into.ensures ∙ subgrouping_fine c.admit_generators.ensures c.args.table.now c.args.work.now c.args.inn.now c.args.outw.now _ c.in_ok-admit_generators.was
