use Rattle.std.proofs.Common.{◌∙◌}
use Rattle.enumeration_rows.proofs.Laws.{gen_beside}
use Rattle.enumeration_fill.proofs.inner.beside.Goals as goal

pub returns : goal.returns
returns c = c.generator.ensures ∙ gen_beside c.args.pair c.args.index
