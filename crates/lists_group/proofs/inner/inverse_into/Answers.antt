-- A product of one factor by the factor's own; else all at once, or one after another.
use Rattle.lists.proofs.Places.{all_worked}
use Rattle.lists_group.proofs.Chunks.{inverse_alone}
use borrow.Author.Rules.{rules}
use Rattle.lists_group.proofs.inner.inverse_into.Goals as goal

pub returns-then-alone : goal.returns-then-alone
returns-then-alone c = inverse_alone c.args.table.now c.args.g c.args.a.now (c.alone.ensures c.if-alone.true) c.inverse_into.ensures

pub returns-then-inverses_at_once : goal.returns-then-inverses_at_once
returns-then-inverses_at_once c = all_worked (c.inverses_at_once.ensures c.if-inverses_at_once.true) (search rules)
