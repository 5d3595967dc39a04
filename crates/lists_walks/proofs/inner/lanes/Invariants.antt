-- The loop keeps that every place that has been taken is right but for those in the lanes; when no lane has one, all are. What the lanes may still cost falls with
-- each turn.
use Prim.Native.Nat.{◌+◌}
use mathlib.Core.Path.{◌≡◌}
use mathlib.Core.Bool.{false}
use lib.ListN.{length}
use Rattle.egg.specs.Table.{pick}
use Rattle.lists_walks.specs.Products.{Products}
use Rattle.lists_walks.specs.Lanes.{LanesReady, Open, weigh_all}
use Rattle.lists_walks.proofs.inner.lanes.Given as goal

abbrev pub invariant-loop-more : goal.invariant-loop-more
invariant-loop-more l = LanesReady l.s l.n l.count l.a l.b l.results × ((length l.results ≡ length l.initial.results) × (Open l.s l.n l.count l.a l.b l.w l.results × (l.more ≡ false → Products l.s l.n l.count l.a l.b l.results)))

abbrev pub decreases-loop-more : goal.decreases-loop-more
decreases-loop-more l = pick l.more 1 0 + weigh_all (length l.a) l.w
