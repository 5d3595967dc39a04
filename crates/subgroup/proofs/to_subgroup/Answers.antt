-- The answer by the outline is that by the handles.
use Prim.Native.Nat.{◌<◌}
use mathlib.Core.Path.{◌∙◌}
use native.Mathlib.Omega.{arith}
use lib.ListN.{length}
use Rattle.subgroup.proofs.Outlines.{measured, back_told}
use borrow.Author.Rules.{rules}
use Rattle.subgroup.proofs.to_subgroup.Goals as goal

pub back_by-requires : goal.back_by-requires
back_by-requires c = let k : c.args.s.factor.elements < 4294967296 = search rules in measured (length c.args.from.now) (length c.args.table.now) c.args.s c.outlined.ensures (omega (arith, k))

pub returns : goal.returns
returns c = c.back_by.ensures ∙ back_told (length c.args.from.now) (length c.args.table.now) c.args.s c.outlined.ensures c.args.inn.now c.args.x (search rules)
