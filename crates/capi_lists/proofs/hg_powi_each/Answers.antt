-- The call's own lists, and its answer written.
use Rattle.capi_values.proofs.Laws.{out_long, out_short}
use Rattle.capi_lists.proofs.Laws.{listed_told_lem}
use Rattle.capi_lists.proofs.hg_powi_each.Goals as goal

pub returns-then-told-lt5 : goal.returns-then-told-lt5
returns-then-told-lt5 c = out_short 5 c.args.told.now _ _ c.if-told-lt5.true

pub returns : goal.returns
returns c = out_long 5 _ _ _ c.if-told-lt5.false (rw (← c.factor_of-f.ensures) (listed_told_lem c.args.told.now c.powi_each-said.ensures c.write_listed.ensures))
