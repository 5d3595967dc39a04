-- One law for each answer.
use Rattle.egg.proofs.Refusing.{handed_on}
use mathlib.Core.Path.{sym, ◌∙◌}
use Rattle.names.proofs.Rights.{enumerate_right_many, enumerate_right_orders, enumerate_right_short, enumerate_right_fine}
use Rattle.names.proofs.inner.enumerate_right.Goals as goal

pub returns-then-n-gt8 : goal.returns-then-n-gt8
returns-then-n-gt8 c = enumerate_right_many _ _ _ (c.args.orders.now) _ _ (c.if-n-gt8.true)

pub returns-in_err-orders_right : goal.returns-in_err-orders_right
returns-in_err-orders_right c = handed_on c.from_residual.ensures ∙ enumerate_right_orders _ _ _ (c.args.orders.now) _ _ (c.if-n-gt8.false) (c.orders_right.ensures) (c.in_err-orders_right.was)

pub returns-then-not-lent_right : goal.returns-then-not-lent_right
returns-then-not-lent_right c = enumerate_right_short _ _ _ (c.args.orders.now) _ _ (c.if-n-gt8.false) (c.orders_right.ensures) (c.in_ok-orders_right.was) (sym c.lent_right.ensures ∙ c.if-not-lent_right.true)

pub returns : goal.returns
returns c = enumerate_right_fine _ _ _ (c.args.orders.now) _ _ (c.if-n-gt8.false) (c.orders_right.ensures) (c.in_ok-orders_right.was) (sym c.lent_right.ensures ∙ c.if-not-lent_right.false)
