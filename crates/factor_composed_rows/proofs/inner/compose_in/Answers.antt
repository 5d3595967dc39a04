-- The table is zeroed, read into, and finished.
use Rattle.factor_composed_rows.proofs.Composing.{composed_in_lem}
use lib.ListN.{length}
use Rattle.factor_composed_rows.proofs.inner.compose_in.Goals as goal

pub returns : goal.returns
returns c = composed_in_lem (length c.args.t.now) c.args.w.now c.args.rows.now _ _ c.clear.ensures c.read_rows-read.ensures c.finish.ensures
