-- The call's own table, and its answer written.
use Rattle.capi_values.proofs.Laws.{out_long, out_short}
use Rattle.capi_builder.proofs.Laws.{grown_told_lem}
use Rattle.capi_builder.proofs.hg_add.Goals as goal

pub returns-then-out-lt5 : goal.returns-then-out-lt5
returns-then-out-lt5 c = out_short 5 c.args.out.now _ _ c.if-out-lt5.true

pub returns : goal.returns
returns c = out_long 5 _ _ _ c.if-out-lt5.false (rw (← c.builder_of-b.ensures) (grown_told_lem c.args.out.now c.add_successor-r.ensures c.write_grown.ensures))
