-- The verdict, written.
use native.Mathlib.Omega.{arith}
use Rattle.capi_values.proofs.Laws.{verdict_told_lem, out_long}
use Rattle.capi_factor.proofs.hg_check.Goals as goal

pub returns : goal.returns
returns c = out_long 4 _ _ _ (omega arith) (rw (← c.factor_of.ensures) (verdict_told_lem c.args.out.now c.check.ensures c.write_verdict.ensures))
