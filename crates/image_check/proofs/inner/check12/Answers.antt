use Rattle.egg.proofs.Refusing.{handed_on}
use mathlib.Core.Path.{ap}
use mathlib.Core.List.{List}
use Prim.Native.Nat.{ℕ}
use Rattle.build_checks_group.specs.Lefts.{fill_left, all_go}
use Rattle.image_check.proofs.Turns.{lefts_next, lefts_stop, lefts_end}
use mathlib.Core.Path.{refl, ◌∙◌}
use native.Mathlib.Nat.{sub-zero}
use lib.ListN.{take, drop}
use Rattle.image_cells.specs.Cells.{cells}
use Rattle.image_check.proofs.inner.check12.Goals as goal

pub loop-s-init : goal.loop-s-init
loop-s-init c = (refl, refl, rw sub-zero)

pub fill_left-requires : goal.fill_left-requires
fill_left-requires c = rw c.loop-s.invariant.0 c.requires

pub goes_at-requires : goal.goes_at-requires
goes_at-requires c = rw (c.fill_left.auto.b, c.loop-s.invariant.0) c.requires

pub returns-in_err-goes_at : goal.returns-in_err-goes_at
returns-in_err-goes_at c = rw (handed_on c.from_residual.ensures, ← c.in_err-goes_at.was)
    (lefts_stop (cells (take c.args.at c.args.b.now)) (cells (drop c.args.at c.loop-s.b)) (cells (drop c.args.at c.fill_left.new.b)) c.args.n c.args.count c.loop-s.s c.loop-s-test.true (c.fill_left.ensures.1 ∙ ap (λ (z : List ℕ). fill_left c.args.count (cells z) c.args.n c.loop-s.s (cells (drop c.args.at c.loop-s.b)) 0) c.loop-s.invariant.1) (c.goes_at.ensures ∙ ap (λ (z : List ℕ). all_go (cells z) (cells (drop c.args.at c.fill_left.new.b)) c.args.n c.args.count) (c.fill_left.ensures.0 ∙ c.loop-s.invariant.1)) c.in_err-goes_at.was ∙ c.loop-s.invariant.2)

pub loop-s-preserved : goal.loop-s-preserved
loop-s-preserved c = (c.fill_left.auto.b ∙ c.loop-s.invariant.0, c.fill_left.ensures.0 ∙ c.loop-s.invariant.1, lefts_next (cells (take c.args.at c.args.b.now)) (cells (drop c.args.at c.loop-s.b)) (cells (drop c.args.at c.fill_left.new.b)) c.args.n c.args.count c.loop-s.s c.loop-s-test.true (c.fill_left.ensures.1 ∙ ap (λ (z : List ℕ). fill_left c.args.count (cells z) c.args.n c.loop-s.s (cells (drop c.args.at c.loop-s.b)) 0) c.loop-s.invariant.1) (c.goes_at.ensures ∙ ap (λ (z : List ℕ). all_go (cells z) (cells (drop c.args.at c.fill_left.new.b)) c.args.n c.args.count) (c.fill_left.ensures.0 ∙ c.loop-s.invariant.1)) c.in_ok-goes_at.was ∙ c.loop-s.invariant.2)

pub shape_of-b : goal.shape_of-b
shape_of-b c = c.loop-s.invariant.0

pub returns : goal.returns
returns c = lefts_end (cells (take c.args.at c.args.b.now)) (cells (drop c.args.at c.loop-s.b)) c.args.n c.args.count c.loop-s.s c.loop-s-test.false ∙ c.loop-s.invariant.2
