-- One law for each answer of the single call.
use Rattle.egg.proofs.Refusing.{handed_on}
use mathlib.Core.Path.{sym, ◌∙◌}
use Rattle.lists.proofs.Answers.{one_refused, one_reached}
use Rattle.lists.proofs.Places.{reached_at}
use Rattle.lists.proofs.inner.hand_over_one.Goals as goal

pub returns-in_err-e : goal.returns-in_err-e
returns-in_err-e c = rw (handed_on c.from_residual.ensures) (one_refused c.args.said (c.args.out.now) c.at_place.ensures (c.in_err-e.was))

pub returns : goal.returns
returns c = one_reached (c.args.out.now) (reached_at c.args.said 0 (sym c.at_place.ensures ∙ c.in_ok-e.was)) (c.requires)
