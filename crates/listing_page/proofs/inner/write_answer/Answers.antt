-- One arm writes the lines, the other the refusal; either text ends where a usize can name it.
use borrow.Author.Rules.{rules}
use Rattle.listing_lines.proofs.Bounds.{group_ends, refused_ends}
use Rattle.listing_page.proofs.inner.write_answer.Goals as goal

pub write_group-requires : goal.write_group-requires
write_group-requires c = group_ends c.args.table.now _ (search rules) (search rules)

pub write_refused-requires : goal.write_refused-requires
write_refused-requires c = refused_ends _

pub returns-in-Ok : goal.returns-in-Ok
returns-in-Ok c = rw c.in-Ok.is c.write_group.ensures

pub returns-in-Err : goal.returns-in-Err
returns-in-Err c = rw (c.in-Err.is, ← c.number.ensures) c.write_refused.ensures
