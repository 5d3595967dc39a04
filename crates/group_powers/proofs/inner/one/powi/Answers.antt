-- The verdict of `admit` decides; then the work's own contract is the answer.
use Rattle.egg.proofs.Refusing.{handed_on}
use lib.ListN.{length}
use mathlib.Core.Path.{◌∙◌, ap}
use lib.IntN.{ℤ}
use Rattle.factor_questions.specs.Walks.{compose_in, inverse_in}
use Rattle.group_powers.specs.Powers.{powers, powi_alone}
use Rattle.group_powers.proofs.Signs.{read_is}
use Rattle.factor.proofs.Admits.{admitted, reach_refused, reach_fine}
use Rattle.group_powers.proofs.inner.one.powi.Goals as goal

pub part-requires : goal.part-requires
part-requires c = admitted (length c.args.table.now) c.args.f _ _ c.admit.ensures c.in_ok-admit.was

pub returns-in_err-admit : goal.returns-in_err-admit
unfolding powi_alone
returns-in_err-admit c = handed_on c.from_residual.ensures ∙ reach_refused c.admit.ensures _ c.in_err-admit.was

pub returns : goal.returns
unfolding powi_alone
returns c = c.powi_in.ensures ∙ ap (λ (z : ℤ). powers 1073741824 (compose_in c.part.result.now c.args.f.generators c.args.f.elements) (inverse_in c.part.result.now c.args.f.generators c.args.f.elements) c.args.a.0 z) (read_is c.args.i c.ranges.i) ∙ rw c.part.ensures (reach_fine c.admit.ensures _ c.in_ok-admit.was)
