-- One place is asked by itself; else the call's own lists. The answer is written.
use Rattle.capi_values.proofs.Laws.{out_long, out_short}
use Rattle.capi_lists.proofs.Laws.{listed_told_lem, one_told}
use Rattle.lists_group.specs.Each.{compose_each}
use native.Mathlib.Omega.{arith}
use Rattle.capi_lists.proofs.hg_product_compose_each.Goals as goal

pub returns-then-told-lt5 : goal.returns-then-told-lt5
returns-then-told-lt5 c = out_short 5 c.args.told.now _ _ c.if-told-lt5.true

pub bounds-a-0 : goal.bounds-a-0
bounds-a-0 c = omega (arith, c.one_place.ensures c.if-one_place.true)

pub bounds-b-0 : goal.bounds-b-0
bounds-b-0 c = omega (arith, c.one_place.ensures c.if-one_place.true)

pub hand_over_one-listed-requires : goal.hand_over_one-listed-requires
hand_over_one-listed-requires c = (c.one_place.ensures c.if-one_place.true).1.1

pub returns-then-one_place : goal.returns-then-one_place
unfolding compose_each
returns-then-one_place c = out_long 5 _ _ _ c.if-told-lt5.false (one_told (c.one_place.ensures c.if-one_place.true) _ c.args.out.now c.args.told.now c.compose-said.ensures c.hand_over_one-listed.ensures c.write_listed.ensures)

pub returns : goal.returns
returns c = out_long 5 _ _ _ c.if-told-lt5.false (rw (← c.product_of-g.ensures) (listed_told_lem c.args.told.now c.compose_each-said.ensures c.write_listed-2.ensures))
