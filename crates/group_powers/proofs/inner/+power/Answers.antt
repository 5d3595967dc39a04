-- One law for each answer.
use Rattle.egg.proofs.Refusing.{handed_on}
use mathlib.Core.Path.{sym, ◌∙◌}
use Rattle.group_handles.specs.Handles.{handles}
use Rattle.group_digits.specs.Digits.{composes}
use Rattle.group_powers.proofs.Powers.{power_none, power_stop, square_stop, power_even, power_odd}
use Rattle.group_powers.proofs.inner.+power.Goals as goal

pub returns-then-k-eq0 : goal.returns-then-k-eq0
returns-then-k-eq0 t c = power_none (composes c.args.table.now (handles c.args.g)) c.args.a.0 c.if-k-eq0.true

pub returns-in_err-x : goal.returns-in_err-x
returns-in_err-x t c = handed_on c.from_residual.ensures ∙ sym c.in_err-x.was ∙ power_stop (composes c.args.table.now (handles c.args.g)) c.args.a.0 c.if-k-eq0.false c.power.ensures c.in_err-x.was

pub returns-in_err-y : goal.returns-in_err-y
returns-in_err-y t c = handed_on c.from_residual-in_err-y.ensures ∙ sym c.in_err-y.was ∙ square_stop (composes c.args.table.now (handles c.args.g)) c.args.a.0 c.if-k-eq0.false c.power.ensures c.in_ok-x.was c.compose_digits.ensures c.in_err-y.was

pub returns-then-k-eq0-2 : goal.returns-then-k-eq0-2
returns-then-k-eq0-2 t c = power_even (composes c.args.table.now (handles c.args.g)) c.args.a.0 c.if-k-eq0.false c.power.ensures c.in_ok-x.was c.compose_digits.ensures c.in_ok-y.was c.if-k-eq0-2.true

pub returns : goal.returns
returns t c = power_odd (composes c.args.table.now (handles c.args.g)) c.args.a.0 c.if-k-eq0.false c.power.ensures c.in_ok-x.was c.compose_digits.ensures c.in_ok-y.was c.if-k-eq0-2.false c.compose_digits-2.ensures
