-- The call's own answer, written.
use Rattle.capi_values.proofs.Laws.{out_long, out_short}
use Rattle.capi_group_build.proofs.Laws.{grouped_told}
use Rattle.capi_group_build.proofs.hg_product.Goals as goal

pub returns-then-out-lt5 : goal.returns-then-out-lt5
returns-then-out-lt5 c = out_short 5 c.args.out.now _ _ c.if-out-lt5.true

pub returns : goal.returns
returns c = out_long 5 _ _ _ c.if-out-lt5.false (rw (← c.product_of-a.ensures, ← c.product_of-b.ensures) (grouped_told c.args.out.now c.product-p.ensures c.write_grouped.ensures))
