use Rattle.std.proofs.Common.{◌-◌, sym, refl, ◌∙◌, zero-le, le_refl, arith}
use Rattle.egg.proofs.Laws.{got_from}
use Rattle.enumeration_fill.proofs.Walks.{walk_step, walk_stuck, walk_end}
use Rattle.enumeration_fill.proofs.inner.walk_leg.Goals as goal

pub loop-left-init : goal.loop-left-init
loop-left-init c = (refl, le_refl _)

pub overflow_add-start : goal.overflow_add-start
overflow_add-start c = omega arith

pub returns-then-x-eq0 : goal.returns-then-x-eq0
returns-then-x-eq0 c = (sym (walk_stuck c.args.t.now c.args.n c.loop-left.e c.args.here c.args.there c.loop-left.left (got_from c.args.t.now c.args.here c.get-x.ensures c.start.ensures.at) c.if-x-eq0.true) ∙ c.loop-left.invariant.0, zero-le)

pub returns-then-left-eq0 : goal.returns-then-left-eq0
returns-then-left-eq0 c = (sym (walk_end c.args.t.now c.args.n (c.get-x.result - 1) c.args.there c.args.here (c.loop-left.left - 1) c.if-left-eq0.true) ∙ sym (walk_step c.args.t.now c.args.n c.loop-left.e c.args.here c.args.there c.loop-left.left c.loop-left-test.true (got_from c.args.t.now c.args.here c.get-x.ensures c.start.ensures.at) c.if-x-eq0.false) ∙ c.loop-left.invariant.0, zero-le)

pub overflow_add-start-in-loop-left : goal.overflow_add-start-in-loop-left
overflow_add-start-in-loop-left c = omega arith

pub returns-then-y-eq0 : goal.returns-then-y-eq0
returns-then-y-eq0 c = (sym (walk_stuck c.args.t.now c.args.n (c.get-x.result - 1) c.args.there c.args.here (c.loop-left.left - 1) (got_from c.args.t.now c.args.there c.get-y.ensures c.start-in-loop-left.ensures.at) c.if-y-eq0.true) ∙ sym (walk_step c.args.t.now c.args.n c.loop-left.e c.args.here c.args.there c.loop-left.left c.loop-left-test.true (got_from c.args.t.now c.args.here c.get-x.ensures c.start.ensures.at) c.if-x-eq0.false) ∙ c.loop-left.invariant.0, zero-le)

pub returns-then-guess-y : goal.returns-then-guess-y
returns-then-guess-y c = (sym (walk_step c.args.t.now c.args.n (c.get-x.result - 1) c.args.there c.args.here (c.loop-left.left - 1) c.if-left-eq0.false (got_from c.args.t.now c.args.there c.get-y.ensures c.start-in-loop-left.ensures.at) c.if-y-eq0.false) ∙ sym (walk_step c.args.t.now c.args.n c.loop-left.e c.args.here c.args.there c.loop-left.left c.loop-left-test.true (got_from c.args.t.now c.args.here c.get-x.ensures c.start.ensures.at) c.if-x-eq0.false) ∙ c.loop-left.invariant.0, omega arith)

pub loop-left-smaller : goal.loop-left-smaller
loop-left-smaller c = omega arith

pub loop-left-preserved : goal.loop-left-preserved
loop-left-preserved c = (rw c.if-guess-y.false (sym (walk_step c.args.t.now c.args.n (c.get-x.result - 1) c.args.there c.args.here (c.loop-left.left - 1) c.if-left-eq0.false (got_from c.args.t.now c.args.there c.get-y.ensures c.start-in-loop-left.ensures.at) c.if-y-eq0.false) ∙ sym (walk_step c.args.t.now c.args.n c.loop-left.e c.args.here c.args.there c.loop-left.left c.loop-left-test.true (got_from c.args.t.now c.args.here c.get-x.ensures c.start.ensures.at) c.if-x-eq0.false) ∙ c.loop-left.invariant.0), omega arith)

pub returns : goal.returns
returns c = (sym (walk_end c.args.t.now c.args.n c.loop-left.e c.args.here c.args.there c.loop-left.left c.loop-left-test.false) ∙ c.loop-left.invariant.0, zero-le)
