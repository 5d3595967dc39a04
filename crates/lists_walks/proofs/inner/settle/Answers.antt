use mathlib.Core.Path.{refl, sym, ◌∙◌}
use borrow.Author.Tests.{not-false}
use lib.ListN.{length}
use Rattle.egg.proofs.Rooms.{false_true}
use Rattle.lists_walks.proofs.Lanes.{ready_kept, settles, took_none, took_more}
use Rattle.lists_walks.proofs.inner.settle.Goals as goal

pub loop-lane-init : goal.loop-lane-init
loop-lane-init c = (c.requires.0, (refl, took_none _ (c.requires.1.1) (c.requires.1.0)))

pub finish-requires : goal.finish-requires
finish-requires c = (c.loop-lane.invariant.0, (c.loop-lane.invariant.1.1.stands.walking, c.loop-lane-test.true))

pub shape_of-results-then-not-finish : goal.shape_of-results-then-not-finish
shape_of-results-then-not-finish c = c.finish.auto.results ∙ c.loop-lane.invariant.1.0

pub returns-then-not-finish : goal.returns-then-not-finish
returns-then-not-finish c = λ h. absurd (false_true (sym c.failed.ensures ∙ h))

pub take-got-requires : goal.take-got-requires
take-got-requires c = (ready_kept (c.loop-lane.invariant.0) c.finish.auto.results, c.loop-lane.invariant.1.1.within)

pub shape_of-results-then-not-got : goal.shape_of-results-then-not-got
shape_of-results-then-not-got c = c.take-got.auto.results ∙ c.finish.auto.results ∙ c.loop-lane.invariant.1.0

pub returns-then-not-got : goal.returns-then-not-got
returns-then-not-got c = λ h. absurd (false_true (sym c.failed-then-not-got.ensures ∙ h))

pub loop-lane-smaller : goal.loop-lane-smaller
loop-lane-smaller c = let got = c.take-got.ensures (not-false _ c.if-not-got.false) in settles (length c.args.a.now) got.onward got.within got.moved c.loop-lane-test.true

pub loop-lane-preserved : goal.loop-lane-preserved
loop-lane-preserved c = (ready_kept (c.loop-lane.invariant.0) (c.take-got.auto.results ∙ c.finish.auto.results), (c.take-got.auto.results ∙ c.finish.auto.results ∙ c.loop-lane.invariant.1.0, took_more (c.loop-lane.invariant.1.1) (c.finish.ensures c.if-not-finish.false) (c.take-got.ensures (not-false _ c.if-not-got.false))))

pub shape_of-results : goal.shape_of-results
shape_of-results c = c.loop-lane.invariant.1.0

pub returns : goal.returns
returns c = λ h. (c.loop-lane.invariant.1.1, c.loop-lane-test.false)
