-- The answer by the outline is that by the handles.
use Prim.Native.Nat.{◌<◌}
use mathlib.Core.Path.{◌∙◌}
use native.Mathlib.Omega.{arith}
use lib.ListN.{length}
use Rattle.subgroup.proofs.Outlines.{measured, over_told}
use borrow.Author.Rules.{rules}
use Rattle.subgroup.proofs.to_overgroup.Goals as goal

pub over_by-requires : goal.over_by-requires
over_by-requires c = let k : c.args.s.factor.elements < 4294967296 = search rules in measured (length c.args.from.now) (length c.args.table.now) c.args.s c.outlined.ensures (omega (arith, k))

pub returns : goal.returns
returns c = c.over_by.ensures ∙ over_told (length c.args.from.now) (length c.args.table.now) c.args.s c.outlined.ensures c.args.outw.now c.args.e (search rules)
