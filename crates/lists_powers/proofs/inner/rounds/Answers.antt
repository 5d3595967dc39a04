use mathlib.Core.Path.{refl, ◌∙◌}
use native.Mathlib.Omega.{arith}
use borrow.Author.Rules.{rules}
use Rattle.lists_powers.proofs.Rounds.{raised_none, raised_at}
use Rattle.lists_powers.proofs.inner.rounds.Goals as goal

pub loop-j-init : goal.loop-j-init
loop-j-init c = (raised_none (c.largest.ensures) (c.bits-j.ensures.1) (c.requires.1.1.1.1), (c.bits-j.ensures.0, (refl, (refl, refl))))

pub round-requires : goal.round-requires
round-requires c = (omega (arith, c.loop-j.invariant.1.0), (c.requires.0, (c.loop-j.invariant.1.1.0 ∙ c.requires.1.0, (c.loop-j.invariant.1.1.1.0 ∙ c.requires.1.1.0, (c.loop-j.invariant.1.1.1.1 ∙ c.requires.1.1.1.0, raised_at (c.loop-j.invariant.0) (omega arith))))))

pub shape_of-xs-then-not-round : goal.shape_of-xs-then-not-round
shape_of-xs-then-not-round c = c.round.auto.xs ∙ c.loop-j.invariant.1.1.0

pub shape_of-ys-then-not-round : goal.shape_of-ys-then-not-round
shape_of-ys-then-not-round c = c.round.auto.ys ∙ c.loop-j.invariant.1.1.1.0

pub shape_of-ms-then-not-round : goal.shape_of-ms-then-not-round
shape_of-ms-then-not-round c = c.round.auto.ms ∙ c.loop-j.invariant.1.1.1.1

pub returns-then-not-round : goal.returns-then-not-round
returns-then-not-round c = λ h. search rules

pub loop-j-preserved : goal.loop-j-preserved
loop-j-preserved c = (c.round.ensures (c.if-not-round.false), (omega (arith, c.loop-j.invariant.1.0), (c.round.auto.xs ∙ c.loop-j.invariant.1.1.0, (c.round.auto.ys ∙ c.loop-j.invariant.1.1.1.0, c.round.auto.ms ∙ c.loop-j.invariant.1.1.1.1))))

pub shape_of-xs : goal.shape_of-xs
shape_of-xs c = c.loop-j.invariant.1.1.0

pub shape_of-ys : goal.shape_of-ys
shape_of-ys c = c.loop-j.invariant.1.1.1.0

pub shape_of-ms : goal.shape_of-ms
shape_of-ms c = c.loop-j.invariant.1.1.1.1

pub returns : goal.returns
returns c = λ h. raised_at (c.loop-j.invariant.0) (omega arith)
