-- One law for each answer.
use lib.ListN.{length}
use Rattle.subgroup.proofs.Handles.{handles_17, handles_15, handles_fine}
use Rattle.subgroup.proofs.inner.admit_handles.Goals as goal

pub returns-then-not-sides_fit : goal.returns-then-not-sides_fit
returns-then-not-sides_fit c = handles_17 (length c.args.from.now) (length c.args.table.now) c.args.s c.sides_fit.ensures c.if-not-sides_fit.true

pub returns-then-not-sides_limited : goal.returns-then-not-sides_limited
returns-then-not-sides_limited c = handles_15 (length c.args.from.now) (length c.args.table.now) c.args.s c.sides_fit.ensures c.if-not-sides_fit.false c.sides_limited.ensures c.if-not-sides_limited.true

pub returns : goal.returns
returns c = handles_fine (length c.args.from.now) (length c.args.table.now) c.args.s c.sides_fit.ensures c.if-not-sides_fit.false c.sides_limited.ensures c.if-not-sides_limited.false
