-- What one lane takes leaves the others as they stand.
use mathlib.Core.Path.{sym, ◌∙◌}
use native.Mathlib.Omega.{arith}
use borrow.Author.Tests.{not-false}
use Rattle.egg.proofs.Rooms.{false_true}
use Rattle.lists_walks.proofs.Lanes.{ready_kept, standing_later}
use Rattle.lists_walks.proofs.Walls.{settled_all}
use Rattle.lists_walks.proofs.inner.settle_all.Goals as goal

pub returns-then-not-one : goal.returns-then-not-one
returns-then-not-one c = λ h. absurd (false_true (sym c.broken.ensures ∙ h))

pub settled-two-requires : goal.settled-two-requires
settled-two-requires c = let one = (c.settled-one.ensures (not-false _ c.if-not-one.false)).0 in (ready_kept (c.requires.0) c.settled-one.auto.results, (one.within, standing_later (c.requires.1.q) one.onward one.within))

pub shape_of-results-then-not-two : goal.shape_of-results-then-not-two
shape_of-results-then-not-two c = c.settled-two.auto.results ∙ c.settled-one.auto.results

pub returns-then-not-two : goal.returns-then-not-two
returns-then-not-two c = λ h. absurd (false_true (sym c.broken-then-not-two.ensures ∙ h))

pub settled-three-requires : goal.settled-three-requires
settled-three-requires c = let one = (c.settled-one.ensures (not-false _ c.if-not-one.false)).0 in let two = (c.settled-two.ensures (not-false _ c.if-not-two.false)).0 in (ready_kept (c.requires.0) (c.settled-two.auto.results ∙ c.settled-one.auto.results), (two.within, standing_later (c.requires.1.r) (omega (arith, one.onward, two.onward)) two.within))

pub shape_of-results-then-not-three : goal.shape_of-results-then-not-three
shape_of-results-then-not-three c = c.settled-three.auto.results ∙ c.settled-two.auto.results ∙ c.settled-one.auto.results

pub returns-then-not-three : goal.returns-then-not-three
returns-then-not-three c = λ h. absurd (false_true (sym c.broken-then-not-three.ensures ∙ h))

pub settled-four-requires : goal.settled-four-requires
settled-four-requires c = let one = (c.settled-one.ensures (not-false _ c.if-not-one.false)).0 in let two = (c.settled-two.ensures (not-false _ c.if-not-two.false)).0 in let three = (c.settled-three.ensures (not-false _ c.if-not-three.false)).0 in (ready_kept (c.requires.0) (c.settled-three.auto.results ∙ c.settled-two.auto.results ∙ c.settled-one.auto.results), (three.within, standing_later (c.requires.1.t) (omega (arith, one.onward, two.onward, three.onward)) three.within))

pub shape_of-results-then-not-four : goal.shape_of-results-then-not-four
shape_of-results-then-not-four c = c.settled-four.auto.results ∙ c.settled-three.auto.results ∙ c.settled-two.auto.results ∙ c.settled-one.auto.results

pub returns-then-not-four : goal.returns-then-not-four
returns-then-not-four c = λ h. absurd (false_true (sym c.broken-then-not-four.ensures ∙ h))

pub shape_of-results : goal.shape_of-results
shape_of-results c = c.settled-four.auto.results ∙ c.settled-three.auto.results ∙ c.settled-two.auto.results ∙ c.settled-one.auto.results

pub returns : goal.returns
returns c = λ h. settled_all (c.requires.1) (c.settled-one.ensures (not-false _ c.if-not-one.false)) (c.settled-two.ensures (not-false _ c.if-not-two.false)) (c.settled-three.ensures (not-false _ c.if-not-three.false)) (c.settled-four.ensures (not-false _ c.if-not-four.false))
