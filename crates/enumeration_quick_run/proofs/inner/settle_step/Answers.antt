use Rattle.egg.proofs.Refusing.{handed_on}
use mathlib.Core.Path.{sym, ◌∙◌}
use native.Mathlib.Omega.{arith}
use Rattle.enumeration_run.proofs.RunLaws.{adds_room}
use Rattle.enumeration_quick_run.proofs.SweepLaws.{settles_closed, settles_refused, settles_new}
use Rattle.enumeration_quick_run.proofs.inner.settle_step.Goals as goal

pub returns-then-found-ne0 : goal.returns-then-found-ne0
returns-then-found-ne0 c = settles_closed (c.args.n) (c.args.room) (c.args.count) (c.args.e) (c.args.g) (c.args.t.now) (c.if-found-ne0.true) (c.set_successor.ensures.1) (c.set_successor-then-found-ne0.ensures.1)

pub overflow_add-result : goal.overflow_add-result
overflow_add-result c = omega (arith, adds_room (c.args.n) (c.args.t.now) (c.args.room) (c.args.count) (c.args.e) (c.args.g) (c.args.t.now) (c.args.t.now) (sym (c.add_successor.ensures.0) ∙ c.in_ok-new.was))

pub returns-in_err-new : goal.returns-in_err-new
returns-in_err-new c = rw (handed_on c.from_residual.ensures) (settles_refused (c.args.n) (c.args.room) (c.args.count) (c.args.e) (c.args.g) (c.args.t.now) (c.if-found-ne0.false) (c.add_successor.ensures.0) (c.add_successor.ensures.1) (c.in_err-new.was))

pub returns : goal.returns
returns c = settles_new (c.args.n) (c.args.room) (c.args.count) (c.args.e) (c.args.g) (c.args.t.now) (c.if-found-ne0.false) (c.add_successor.ensures.0) (c.add_successor.ensures.1) (c.in_ok-new.was) (c.set_successor-2.ensures.1)
