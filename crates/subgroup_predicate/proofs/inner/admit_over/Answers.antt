-- One law for each answer.
use mathlib.Core.Path.{sym, ◌∙◌}
use lib.ListN.{length}
use Rattle.subgroup_predicate.proofs.Told.{over_handle, over_large, over_fine}
use Rattle.subgroup_predicate.proofs.inner.admit_over.Goals as goal

pub returns-then-not-all_fit : goal.returns-then-not-all_fit
returns-then-not-all_fit c = over_handle (length c.args.from.now) c.args.over (sym c.all_fit.ensures ∙ c.if-not-all_fit.true)

pub returns-then-not-small_enough : goal.returns-then-not-small_enough
returns-then-not-small_enough c = over_large (length c.args.from.now) c.args.over (sym c.all_fit.ensures ∙ c.if-not-all_fit.false) c.small_enough.ensures c.if-not-small_enough.true

pub returns : goal.returns
returns c = over_fine (length c.args.from.now) c.args.over (sym c.all_fit.ensures ∙ c.if-not-all_fit.false) c.small_enough.ensures c.if-not-small_enough.false
