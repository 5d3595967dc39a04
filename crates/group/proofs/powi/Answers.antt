-- A product of one factor is asked as the factor is. Else the verdict of `admit_one` decides, and the work's own contract is the answer.
use Rattle.egg.proofs.Refusing.{handed_on}
use lib.ListN.{length, get_or}
use mathlib.Core.Path.{◌∙◌, ap}
use lib.IntN.{ℤ}
use Rattle.group.specs.Questions.{powi_answer}
use Rattle.build_lending.specs.Lending.{no_factor}
use Rattle.group_handles.specs.Handles.{handles}
use Rattle.group_digits.specs.Digits.{composes, inverts}
use Rattle.group_powers.specs.Powers.{powers, powi_alone}
use Rattle.group_powers.proofs.Signs.{read_is}
use Rattle.factor.proofs.Admits.{reach_refused, reach_fine}
use Rattle.group_handles.proofs.Admitted.{ready}
use Rattle.group.proofs.OneFactor.{one_powi}
use Rattle.group.proofs.powi.Goals as goal

pub returns-then-alone : goal.returns-then-alone
returns-then-alone c = c.powi.ensures ∙ ap (λ (z : ℤ). powi_alone c.args.table.now (get_or c.args.g.factors 0 no_factor) c.args.a z) (read_is c.args.i c.ranges.i) ∙ one_powi c.args.table.now c.args.g _ (c.alone.ensures c.if-alone.true).counted (c.alone.ensures c.if-alone.true).listed c.args.a c.args.i

pub powi_in-requires : goal.powi_in-requires
powi_in-requires c = (ready (length c.args.table.now) c.args.g _ _ _ _ c.admit_one.ensures c.in_ok-admit_one.was)

pub returns-in_err-admit_one : goal.returns-in_err-admit_one
unfolding powi_answer
returns-in_err-admit_one c = handed_on c.from_residual.ensures ∙ reach_refused c.admit_one.ensures _ c.in_err-admit_one.was

pub returns : goal.returns
unfolding powi_answer
returns c = c.powi_in.ensures ∙ ap (λ (z : ℤ). powers 1073741824 (composes c.args.table.now (handles c.args.g)) (inverts c.args.table.now (handles c.args.g)) c.args.a.0 z) (read_is c.args.i c.ranges.i) ∙ reach_fine c.admit_one.ensures _ c.in_ok-admit_one.was
