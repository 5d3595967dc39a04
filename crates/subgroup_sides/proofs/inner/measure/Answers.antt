-- Two products.
use Prim.Native.Nat.{◌*◌}
use mathlib.Core.Path.{◌∙◌}
use Rattle.subgroup_sides.proofs.Counts.{cap_low}
use Rattle.subgroup_sides.proofs.inner.measure.Goals as goal

pub times-requires-2 : goal.times-requires-2
times-requires-2 c = (c.requires.0, cap_low (c.args.m * c.args.above) c.times.ensures)

pub returns : goal.returns
returns c = c.times-2.ensures ∙ rw c.times.ensures
