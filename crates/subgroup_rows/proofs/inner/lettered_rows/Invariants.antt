-- The invariant: what is left of the rows gives what all of them give.
use Prim.Native.Nat.{◌-◌, ◌≤◌}
use mathlib.Core.Path.{◌≡◌}
use mathlib.Core.List.{[], ◌∷◌}
use lib.ListN.{length}
use Rattle.subgroup_rows.specs.Rows.{product_by}
use Rattle.build_numbering.specs.Renumber.{map_rows}
use Rattle.subgroup_rows.proofs.inner.lettered_rows.Given as goal

abbrev pub invariant-loop-e : goal.invariant-loop-e
invariant-loop-e l = (length l.t ≡ length l.initial.t) × (length l.inn ≡ length l.initial.inn) × (length l.outw ≡ length l.initial.outw) × (l.e ≤ l.room) × (map_rows (l.room - l.e) (product_by l.from (l.f ∷ []) l.gens) l.n l.room l.e l.count l.t l.inn l.outw ≡ map_rows l.room (product_by l.from (l.f ∷ []) l.gens) l.n l.room 0 1 l.initial.t l.initial.inn l.initial.outw)
