-- One law for each answer.
use Rattle.egg.proofs.Refusing.{handed_on}
use mathlib.Core.Path.{sym, ◌∙◌}
use lib.ListN.{length}
use Rattle.subgroup_build.proofs.Admits.{generators_handle, generators_entry, generators_large, generators_fine}
use Rattle.subgroup_build.proofs.inner.admit_generators.Goals as goal

pub returns-then-not-all_fit : goal.returns-then-not-all_fit
returns-then-not-all_fit c = generators_handle (length c.args.from.now) c.args.over c.args.gens.now (sym c.all_fit.ensures ∙ c.if-not-all_fit.true)

pub returns-in_err-entries_right : goal.returns-in_err-entries_right
returns-in_err-entries_right c = handed_on c.from_residual.ensures ∙ generators_entry (length c.args.from.now) c.args.over c.args.gens.now (sym c.all_fit.ensures ∙ c.if-not-all_fit.false) c.entries_right.ensures c.in_err-entries_right.was

pub returns-then-not-small_enough : goal.returns-then-not-small_enough
returns-then-not-small_enough c = generators_large (length c.args.from.now) c.args.over c.args.gens.now (sym c.all_fit.ensures ∙ c.if-not-all_fit.false) c.entries_right.ensures c.in_ok-entries_right.was c.small_enough.ensures c.if-not-small_enough.true

pub returns : goal.returns
returns c = generators_fine (length c.args.from.now) c.args.over c.args.gens.now (sym c.all_fit.ensures ∙ c.if-not-all_fit.false) c.entries_right.ensures c.in_ok-entries_right.was c.small_enough.ensures c.if-not-small_enough.false
