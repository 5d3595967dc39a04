use Prim.Native.Nat.{ℕ, ◌<◌}
use mathlib.Core.Path.{refl, ap, ◌∙◌}
use mathlib.Core.List.{List}
use lib.ListN.{get_or}
use borrow.Author.Rules.{rules}
use Rattle.image_cells.specs.Cells.{cells}
use Rattle.build_checks_inverses.proofs.Hints.{filling, by_hint, fills, filled}
use Rattle.image_check.proofs.inner.fill_inverses.Goals as goal

pub loop-e-init : goal.loop-e-init
loop-e-init c = (refl, filling _ _ _, refl)

pub inverted_at-x-requires : goal.inverted_at-x-requires
inverted_at-x-requires c = rw c.loop-e.invariant.0 c.requires.0

pub put_table-requires : goal.put_table-requires
put_table-requires c = rw c.loop-e.invariant.0 c.requires.0

pub loop-e-preserved : goal.loop-e-preserved
loop-e-preserved c = let small : c.inverted_at-x.result.0 < 4294967296 = search rules in (
  c.put_table.auto.b ∙ c.loop-e.invariant.0,
  rw (c.put_table.ensures.0, c.inverse_at-i.ensures.at)
      (fills c.loop-e.invariant.1 c.loop-e-test.true small
      (c.inverted_at-x.ensures
      ∙ by_hint c.loop-e.invariant.1 (ap (λ (w : List ℕ). get_or (cells w) c.loop-e.e 0) c.loop-e.invariant.2) (c.requires.1.each _ c.loop-e-test.true))),
  c.put_table.ensures.1 ∙ c.loop-e.invariant.2,
)

pub shape_of-b : goal.shape_of-b
shape_of-b c = c.loop-e.invariant.0

pub returns : goal.returns
returns c = filled c.loop-e.invariant.1 c.loop-e-test.false
