-- The call's own buffers, and its answer written.
use Rattle.capi_values.proofs.Laws.{out_long, out_short}
use Rattle.capi_subgroup.proofs.Laws.{subgroup_told_lem}
use Rattle.capi_subgroup.proofs.hg_subgroup.Goals as goal

pub returns-then-out-lt6 : goal.returns-then-out-lt6
returns-then-out-lt6 c = out_short 6 c.args.out.now _ _ c.if-out-lt6.true

pub returns : goal.returns
returns c = out_long 6 _ _ _ c.if-out-lt6.false (rw (← c.product_of-over.ensures) (subgroup_told_lem c.args.out.now c.from_generators-m.ensures c.write_subgrouped.ensures))
