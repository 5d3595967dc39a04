-- The call's own answer, as one number.
use mathlib.Core.Path.{ap, ◌∙◌}
use Rattle.capi_values.specs.Bridge.{reached_code}
use Rattle.capi_group.proofs.Laws.{powi_handed}
use Rattle.capi_group.proofs.hg_product_powi.Goals as goal

pub returns : goal.returns
returns c = c.reached_code.ensures ∙ ap reached_code (powi_handed (c.args.table.now) (record { 0 = c.args.a }) (c.args.i) (c.ranges.i) (c.product_of-g.ensures) (c.powi.ensures))
