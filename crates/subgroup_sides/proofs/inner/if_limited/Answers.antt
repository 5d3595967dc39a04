-- One law for each answer.
use mathlib.Core.Path.{sym, ◌∙◌}
use Rattle.subgroup_sides.proofs.SideLaws.{limit_no, limit_fine}
use Rattle.subgroup_sides.proofs.inner.if_limited.Goals as goal

pub returns-then-not-sides_limited : goal.returns-then-not-sides_limited
returns-then-not-sides_limited c = limit_no c.args.s (sym c.sides_limited.ensures ∙ c.if-not-sides_limited.true)

pub returns : goal.returns
returns c = limit_fine c.args.s (sym c.sides_limited.ensures ∙ c.if-not-sides_limited.false)
