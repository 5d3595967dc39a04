use Rattle.std.proofs.Common.{sym, ◌∙◌}
use Rattle.enumeration_wake.proofs.WakeLaws.{learns_new, learns_old}
use Rattle.enumeration_wake.proofs.inner.learn.Goals as goal

pub returns-then-set_successor : goal.returns-then-set_successor
returns-then-set_successor c = sym (learns_new c.args.n c.args.e c.args.g c.args.r c.args.t.now c.args.w.now c.args.top (sym c.set_successor.ensures.0 ∙ c.if-set_successor.true) ∙ rw (c.set_successor.ensures.1, c.put.ensures, c.place_at-at.ensures.at))

pub returns-else-set_successor : goal.returns-else-set_successor
returns-else-set_successor c = sym (learns_old c.args.n c.args.e c.args.g c.args.r c.args.t.now c.args.w.now c.args.top (sym c.set_successor.ensures.0 ∙ c.if-set_successor.false) ∙ rw c.set_successor.ensures.1)
