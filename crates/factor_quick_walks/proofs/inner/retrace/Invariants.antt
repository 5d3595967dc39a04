use Prim.Native.Nat.{◌-◌, ◌≤◌, ◌<◌}
use mathlib.Core.Path.{◌≡◌}
use Rattle.factor_word_walks.specs.Walks.{back_along}
use Rattle.factor_quick_walks.proofs.inner.retrace.Given as goal

abbrev pub invariant-loop-left : goal.invariant-loop-left
invariant-loop-left l = (0 < l.y) × ((l.y ≤ l.count) × ((l.at < l.count) × (back_along l.left l.s l.n l.count (l.y - 1) l.at ≡ back_along l.letters l.s l.n l.count l.fn.from.0 l.initial.at)))

abbrev pub decreases-loop-left : goal.decreases-loop-left
decreases-loop-left l = l.left
