-- The call by generators, with none.
use mathlib.Core.Path.{◌∙◌}
use Rattle.subgroup.specs.Trivial.{trivial_subgroup}
use Rattle.subgroup.proofs.trivial.Goals as goal

pub returns : goal.returns
unfolding trivial_subgroup
returns c = c.from_generators.ensures ∙ rw c.trivial-over.ensures
