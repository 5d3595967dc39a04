use mathlib.Core.Path.{◌∙◌}
use native.Mathlib.Omega.{arith}
use Rattle.enumeration_rows.proofs.inner.list_at.Goals as goal

pub returns-in-Left : goal.returns-in-Left
returns-in-Left c = record { at = rw c.in-Left.is (c.place_at.ensures.at ∙ rw c.generator.ensures); small = omega arith }

pub returns-in-Right : goal.returns-in-Right
returns-in-Right c = record { at = rw (c.in-Right.is, c.place_at-in-Right.ensures.at, c.generator-in-Right.ensures); small = omega arith }
