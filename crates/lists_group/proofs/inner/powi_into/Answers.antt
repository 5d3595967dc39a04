-- A product of one factor by the factor's own; else one after another.
use Rattle.lists_group.proofs.Chunks.{powi_alone_lem}
use Rattle.lists_group.proofs.inner.powi_into.Goals as goal

pub returns-then-alone : goal.returns-then-alone
returns-then-alone c = powi_alone_lem c.args.table.now c.args.g c.args.a.now (c.alone.ensures c.if-alone.true) c.args.exponents.now c.powi_into.ensures
