use Rattle.egg.proofs.Refusing.{handed_on}
use mathlib.Core.Path.{refl, sym, ◌∙◌}
use native.Mathlib.Omega.{arith}
use Rattle.factor_word_walks.proofs.Walks.{back_end, back_outside, back_cell, row_last, row_refused, row_more}
use Rattle.factor_word_walks.proofs.inner.back_along.Goals as goal

pub loop-left-init : goal.loop-left-init
loop-left-init c = refl

pub returns-then-count-at : goal.returns-then-count-at
returns-then-count-at c = back_outside (c.args.s.now) (c.args.n) (c.args.count) (c.loop-left.x.0) (c.loop-left.at) (omega (arith, c.loop-left-test.true)) (c.if-count-at.true) ∙ c.loop-left.invariant

pub returns-then-not-cell_within : goal.returns-then-not-cell_within
returns-then-not-cell_within c = back_cell (c.args.s.now) (c.args.n) (c.args.count) (c.loop-left.x.0) (c.loop-left.at) (c.if-count-at.false) (c.hop-c.ensures) (omega (arith, c.loop-left-test.true)) (sym c.cell_within.ensures ∙ c.if-not-cell_within.true) ∙ c.loop-left.invariant

pub returns-in_err-x : goal.returns-in_err-x
returns-in_err-x c = handed_on c.from_residual.ensures ∙ row_refused (c.args.s.now) (c.args.n) (c.args.count) (c.loop-left.x.0) (c.loop-left.at) (c.if-count-at.false) (c.hop-c.ensures) (sym c.cell_within.ensures ∙ c.if-not-cell_within.false) (c.loop-left-test.true) (c.letters_back.ensures) (c.in_err-x.was) ∙ c.loop-left.invariant

pub loop-left-preserved : goal.loop-left-preserved
loop-left-preserved c = row_more (c.args.s.now) (c.args.n) (c.args.count) (c.loop-left.x.0) (c.loop-left.at) (c.if-count-at.false) (c.hop-c.ensures) (sym c.cell_within.ensures ∙ c.if-not-cell_within.false) (c.loop-left-test.true) (c.letters_back.ensures) (c.in_ok-x.was) ∙ c.loop-left.invariant

pub returns-then-left-eq0 : goal.returns-then-left-eq0
returns-then-left-eq0 c = back_end (c.args.s.now) (c.args.n) (c.args.count) (c.loop-left.x.0) (c.loop-left.at) (omega (arith, c.if-left-eq0.true)) ∙ c.loop-left.invariant

pub returns-then-count-at-2 : goal.returns-then-count-at-2
returns-then-count-at-2 c = back_outside (c.args.s.now) (c.args.n) (c.args.count) (c.loop-left.x.0) (c.loop-left.at) (omega (arith, c.if-left-eq0.false)) (c.if-count-at-2.true) ∙ c.loop-left.invariant

pub returns-then-not-cell_within-2 : goal.returns-then-not-cell_within-2
returns-then-not-cell_within-2 c = back_cell (c.args.s.now) (c.args.n) (c.args.count) (c.loop-left.x.0) (c.loop-left.at) (c.if-count-at-2.false) (c.hop-c-2.ensures) (omega (arith, c.if-left-eq0.false)) (sym c.cell_within-2.ensures ∙ c.if-not-cell_within-2.true) ∙ c.loop-left.invariant

pub returns : goal.returns
returns c = row_last (c.args.s.now) (c.args.n) (c.args.count) (c.loop-left.x.0) (c.loop-left.at) (c.if-count-at-2.false) (c.hop-c-2.ensures) (sym c.cell_within-2.ensures ∙ c.if-not-cell_within-2.false) (c.if-left-eq0.false) (c.loop-left-test.false) (c.letters_back-2.ensures) ∙ c.loop-left.invariant
