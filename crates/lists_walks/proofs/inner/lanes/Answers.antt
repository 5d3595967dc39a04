use mathlib.Core.Path.{refl, sym, ◌∙◌}
use borrow.Author.Tests.{not-false}
use Rattle.egg.proofs.Rooms.{false_true}
use Rattle.lists_walks.proofs.Lanes.{ready_kept}
use Rattle.lists_walks.proofs.Walls.{open_forward, falls, all_done}
use Rattle.lists_walks.proofs.inner.lanes.Goals as goal

pub loop-more-init : goal.loop-more-init
loop-more-init c = (c.requires.0, (refl, (c.requires.1, λ h. absurd (false_true (sym h)))))

pub settle_all-ready-requires : goal.settle_all-ready-requires
settle_all-ready-requires c = (c.loop-more.invariant.0, c.loop-more.invariant.1.1.0)

pub shape_of-results-then-not-ready : goal.shape_of-results-then-not-ready
shape_of-results-then-not-ready c = c.settle_all-ready.auto.results ∙ c.loop-more.invariant.1.0

pub returns-then-not-ready : goal.returns-then-not-ready
returns-then-not-ready c = λ h. absurd (false_true h)

pub five_ahead-w-requires : goal.five_ahead-w-requires
five_ahead-w-requires c = (c.loop-more.invariant.0.rows, (c.settle_all-ready.ensures (not-false _ c.if-not-ready.false)).far)

pub shape_of-results-then-not-w : goal.shape_of-results-then-not-w
shape_of-results-then-not-w c = c.settle_all-ready.auto.results ∙ c.loop-more.invariant.1.0

pub returns-then-not-w : goal.returns-then-not-w
returns-then-not-w c = λ h. absurd (false_true h)

pub loop-more-smaller : goal.loop-more-smaller
loop-more-smaller c = rw (c.loop-more-test.true) (falls (c.five_ahead-w.ensures (not-false _ c.if-not-w.false)) (c.live-more.ensures.0) (c.settle_all-ready.ensures (not-false _ c.if-not-ready.false)).weight)

pub loop-more-preserved : goal.loop-more-preserved
loop-more-preserved c = let all = c.settle_all-ready.ensures (not-false _ c.if-not-ready.false) in let ahead = c.five_ahead-w.ensures (not-false _ c.if-not-w.false) in (ready_kept (c.loop-more.invariant.0) c.settle_all-ready.auto.results, (c.settle_all-ready.auto.results ∙ c.loop-more.invariant.1.0, (open_forward ahead all.opened, λ h. all_done all.opened all.far (c.live-more.ensures.1 h))))

pub shape_of-results : goal.shape_of-results
shape_of-results c = c.loop-more.invariant.1.0

pub returns : goal.returns
returns c = λ h. c.loop-more.invariant.1.1.1 c.loop-more-test.false
