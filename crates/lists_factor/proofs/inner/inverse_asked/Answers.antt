-- The place is asked, and its answer handed over.
use Rattle.lists.proofs.Answers.{only_place}
use mathlib.Core.Path.{◌∙◌}
use Rattle.lists_factor.proofs.inner.inverse_asked.Goals as goal

pub hand_over_one-requires : goal.hand_over_one-requires
hand_over_one-requires c = c.requires.1 ∙ c.requires.0

pub returns : goal.returns
returns c = only_place (c.args.out.now) _ (c.requires.0) (c.inverse-said.ensures) (c.hand_over_one.ensures)
