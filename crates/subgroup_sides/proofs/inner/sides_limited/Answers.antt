-- The numbers that are seen of the handles, put together.
use mathlib.Core.Path.{◌∙◌}
use Rattle.group_handles.specs.Handles.{handles, elements_of}
use Rattle.subgroup_sides.proofs.Counts.{cap_low}
use Rattle.subgroup_sides.proofs.SideLaws.{limited_sides}
use borrow.Author.Rules.{rules}
use Rattle.subgroup_sides.proofs.inner.sides_limited.Goals as goal

pub limited_by-requires : goal.limited_by-requires
limited_by-requires c = (cap_low (elements_of (handles c.args.s.below)) c.elements_of-low.ensures, (search rules, (cap_low (elements_of (handles c.args.s.over)) c.elements_of-middle.ensures, cap_low (elements_of (handles c.args.s.above)) c.elements_of-high.ensures)))

pub returns : goal.returns
returns c = c.limited_by.ensures ∙ limited_sides c.args.s c.few_factors-few.ensures c.elements_of-low.ensures c.elements_of-middle.ensures c.elements_of-high.ensures
