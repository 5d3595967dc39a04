-- The call's own buffers, and its answer written.
use Rattle.capi_values.proofs.Laws.{bridge_told, out_long, out_short}
use Rattle.capi_factor_build.proofs.hg_enumerate.Goals as goal

pub returns-then-out-lt5 : goal.returns-then-out-lt5
returns-then-out-lt5 c = out_short 5 c.args.out.now _ _ c.if-out-lt5.true

pub returns : goal.returns
returns c = out_long 5 _ _ _ c.if-out-lt5.false (bridge_told c.args.out.now c.enumerate.ensures c.write_made.ensures)
