use Prim.Native.Nat.{◌+◌, ◌-◌}
use mathlib.Core.Path.{◌≡◌, ◌∙◌}
use native.Mathlib.Nat.{sub-zero}
use native.Mathlib.Omega.{arith}
use Rattle.image_cells.specs.Cells.{cells}
use Rattle.build_checks_inverses.specs.Inverses.{invert_from}
use Rattle.build_checks_inverses.proofs.Undoing.{undo_letter}
use Rattle.image_check.proofs.inner.checking.invert.Goals as goal

pub loop-init : goal.loop-init
loop-init c = rw sub-zero

pub loop-preserved : goal.loop-preserved
loop-preserved c = let left = c.word_length-end.result - c.loop.counter in
    let q : left - 1 ≡ c.word_length-end.result - (c.loop.counter + 1) = omega arith in
    rw q at (undo_letter (cells c.args.t.now) c.args.n c.loop.at c.loop.x left (omega (arith, c.loop-test.true)) c.back_last-x.ensures c.parent-at.ensures)
    ∙ c.loop.invariant

pub returns : goal.returns
unfolding invert_from
returns c = let q : c.word_length-end.result - c.loop.counter ≡ 0 = omega arith in
    rw q at c.loop.invariant ∙ rw c.word_length-end.ensures
