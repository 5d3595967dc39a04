-- The invariant: what is left of the row gives what the whole row gives.
use Prim.Native.Nat.{◌-◌, ◌≤◌, ◌<◌}
use mathlib.Core.Path.{◌≡◌}
use mathlib.Core.List.{[], ◌∷◌}
use lib.ListN.{length, get_or}
use Rattle.build_numbering.specs.Renumber.{map_row}
use Rattle.subgroup_rows.specs.Rows.{product_by}
use Rattle.subgroup_rows.proofs.inner.factor_row.Given as goal

abbrev pub invariant-loop-g : goal.invariant-loop-g
invariant-loop-g l = (length l.t ≡ length l.initial.t) × (length l.inn ≡ length l.initial.inn) × (length l.outw ≡ length l.initial.outw) × (l.g ≤ l.n) × (map_row (l.n - l.g) (product_by l.from (l.f ∷ []) l.gens) l.n l.room l.e.0 l.g l.count l.t l.inn l.outw ≡ map_row l.n (product_by l.from (l.f ∷ []) l.gens) l.n l.room l.e.0 0 l.first l.initial.t l.initial.inn l.initial.outw) × (l.e.0 < l.count) × (l.at ≡ get_or l.outw l.e.0 0)
