use Rattle.egg.proofs.Refusing.{handed_on}
use mathlib.Core.Path.{refl, sym, ◌∙◌}
use lib.ListN.{length}
use native.Mathlib.Omega.{arith}
use Rattle.group_handles.specs.Handles.{handles}
use Rattle.group_handles.proofs.Lists.{positive}
use Rattle.group_walk.proofs.Follows.{held_start, held_right, held_joined, following, enough, follows_end, follows_stops, follows_on, few_listed, owned, owned_at, owned_handle, owned_fits, owned_letter}
use Rattle.group_walk.proofs.inner.follow.Goals as goal

pub split_in-requires : goal.split_in-requires
split_in-requires c = positive (length c.args.table.now) (handles c.args.g) c.requires.0.fits

pub loop-i-init : goal.loop-i-init
loop-i-init c = λ e H. following c.args.table.now c.args.word.now c.split_in.auto.out (few_listed c.requires.0) H

pub bounds-g-f : goal.bounds-g-f
bounds-g-f c = owned_at c.requires.0 c.loop-i-test.true c.wide-x.ensures c.find-o.ensures

pub part-requires : goal.part-requires
part-requires c = owned_fits c.requires.0 c.loop-i-test.true c.wide-x.ensures c.find-o.ensures

pub bounds-digits-f : goal.bounds-digits-f
bounds-digits-f c = owned_at c.requires.0 c.loop-i-test.true c.wide-x.ensures c.find-o.ensures

pub overflow_sub-x : goal.overflow_sub-x
overflow_sub-x c = (owned c.requires.0 c.loop-i-test.true c.wide-x.ensures c.find-o.ensures).passed

pub overflow_cast-x : goal.overflow_cast-x
overflow_cast-x c = omega (arith, owned_letter c.requires.0 c.loop-i-test.true c.wide-x.ensures c.find-o.ensures)

pub returns-in_err-y : goal.returns-in_err-y
returns-in_err-y c = handed_on c.from_residual.ensures ∙ follows_stops (c.loop-i.invariant _ (held_start c.requires.0 c.split_in.ensures.1)) c.loop-i-test.true c.wide-x.ensures (owned c.requires.0 c.loop-i-test.true c.wide-x.ensures c.find-o.ensures) (owned_handle c.requires.0 c.loop-i-test.true c.wide-x.ensures c.find-o.ensures) c.part.ensures refl c.next.ensures c.in_err-y.was

pub bounds-digits-f-in-loop-i : goal.bounds-digits-f-in-loop-i
bounds-digits-f-in-loop-i c = owned_at c.requires.0 c.loop-i-test.true c.wide-x.ensures c.find-o.ensures

pub loop-i-preserved : goal.loop-i-preserved
loop-i-preserved c = λ e H. follows_on (c.loop-i.invariant e H) c.loop-i-test.true c.wide-x.ensures (owned c.requires.0 c.loop-i-test.true c.wide-x.ensures c.find-o.ensures) (owned_handle c.requires.0 c.loop-i-test.true c.wide-x.ensures c.find-o.ensures) c.part.ensures refl c.next.ensures c.in_ok-y.was

pub slice_bounds-join_in-end : goal.slice_bounds-join_in-end
slice_bounds-join_in-end c = sym (c.loop-i.invariant _ (held_start c.requires.0 c.split_in.ensures.1)).long

pub join_in-requires : goal.join_in-requires
join_in-requires c = (positive (length c.args.table.now) (handles c.args.g) c.requires.0.fits, (c.requires.1, held_right (c.loop-i.invariant _ (held_start c.requires.0 c.split_in.ensures.1)).held (enough (c.loop-i.invariant _ (held_start c.requires.0 c.split_in.ensures.1)))))

pub returns : goal.returns
returns c = follows_end (c.loop-i.invariant _ (held_start c.requires.0 c.split_in.ensures.1)) c.loop-i-test.false (c.join_in.ensures ∙ held_joined c.args.g (c.loop-i.invariant _ (held_start c.requires.0 c.split_in.ensures.1)).held (enough (c.loop-i.invariant _ (held_start c.requires.0 c.split_in.ensures.1))) c.requires.0.within)
