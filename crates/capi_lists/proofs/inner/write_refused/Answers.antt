-- By the refusal: its verdict, and the place behind it.
use Rattle.capi_lists.proofs.Laws.{told_at, told_lists}
use Rattle.capi_lists.proofs.inner.write_refused.Goals as goal

pub returns-in-RefusedAt : goal.returns-in-RefusedAt
returns-in-RefusedAt c = told_at c.args.told.now c.in-RefusedAt.is c.write_at.ensures

pub returns-in-ListsRefused : goal.returns-in-ListsRefused
returns-in-ListsRefused c = told_lists c.args.told.now c.in-ListsRefused.is c.write_at-in-ListsRefused.ensures
