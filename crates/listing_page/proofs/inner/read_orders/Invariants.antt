-- The invariant: whatever stores the orders from i on has stored them all.
use Prim.Native.Nat.{◌≤◌, ◌-◌}
use mathlib.Core.Path.{◌≡◌}
use lib.ListN.{length}
use Rattle.listing_page.specs.Listing.{orders_in}
use Rattle.listing_lines.proofs.Laws.{Rest}
use Rattle.listing_page.proofs.inner.read_orders.Given as goal

abbrev pub invariant-loop-i : goal.invariant-loop-i
invariant-loop-i l = (l.i ≤ l.k) × (length l.orders ≡ 28) × Rest l.initial.orders 0 (orders_in l.k l.input 0) l.orders l.i (orders_in (l.k - l.i) l.input l.i)
