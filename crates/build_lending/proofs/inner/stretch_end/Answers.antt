-- A stretch that has room is within its buffer, whose length fits.
use native.Mathlib.Omega.{arith}
use Rattle.egg.proofs.Rooms.{within_length}
use Rattle.build_lending.proofs.inner.stretch_end.Goals as goal

pub overflow_add-result : goal.overflow_add-result
overflow_add-result c = let a = c.args in
    omega (arith, within_length a.len a.start a.room a.n c.requires, c.table_need.ensures, c.ranges.len.fits)

pub returns : goal.returns
returns c = let a = c.args in
    record { at = omega (arith, c.table_need.ensures); inside = omega (arith, within_length a.len a.start a.room a.n c.requires, c.table_need.ensures) }
