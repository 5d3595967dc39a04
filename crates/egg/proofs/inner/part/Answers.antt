use Rattle.egg.proofs.Rooms.{stretch_end}
use Rattle.egg.specs.Factor.{stretch}
use Prim.Native.Nat.{◌+◌, ◌*◌, ◌-◌}
use lib.ListN.{length}
use mathlib.Core.Path.{◌≡◌}
use native.Mathlib.Omega.{arith}
use Rattle.egg.proofs.inner.part.Goals as goal

pub overflow_mul-b : goal.overflow_mul-b
overflow_mul-b c = record { fits = omega (arith, stretch_end (length c.args.table.now) c.args.f c.requires c.width.ensures, c.well_formed.0.0) }

pub overflow_add-b : goal.overflow_add-b
overflow_add-b c = record { fits = omega (arith, stretch_end (length c.args.table.now) c.args.f c.requires c.width.ensures, c.well_formed.0.0) }

pub offset_bounds-table-a : goal.offset_bounds-table-a
offset_bounds-table-a c = record { fits = omega (arith, stretch_end (length c.args.table.now) c.args.f c.requires c.width.ensures, c.well_formed.0) }

pub slice_bounds-result-end : goal.slice_bounds-result-end
slice_bounds-result-end c = omega (arith, stretch_end (length c.args.table.now) c.args.f c.requires c.width.ensures)

pub returns : goal.returns
unfolding stretch
returns c = let q : c.args.f.start + c.args.f.room * c.width.result - c.args.f.start ≡ c.args.f.room * c.width.result = omega arith in rw (q, c.width.ensures)
