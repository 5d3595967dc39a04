-- By the length of `out`; then the call's own verdict and work.
use mathlib.Core.List.{[], ◌∷◌}
use native.Mathlib.Omega.{arith}
use Rattle.capi_values.proofs.Laws.{out_long, out_short}
use Rattle.capi_image.specs.Verdict.{checked_into}
use Rattle.capi_image.proofs.Laws.{checked_told}
use Rattle.capi_image.proofs.hg_image_verdict.Goals as goal

pub returns-then-out-lt4 : goal.returns-then-out-lt4
returns-then-out-lt4 c = out_short 4 c.args.out.now (c.args.work.now ∷ []) (checked_into c.args.image.now c.args.work.now c.args.out.now) (omega (arith, c.if-out-lt4.true))

pub returns : goal.returns
returns c = out_long 4 c.args.out.now (c.args.work.now ∷ []) (checked_into c.args.image.now c.args.work.now c.args.out.now) c.if-out-lt4.false (checked_told c.args.image.now c.args.work.now c.args.out.now c.verdict.ensures c.write_verdict.ensures)
