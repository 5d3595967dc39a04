use mathlib.Core.Path.{◌∙◌}
use native.Mathlib.Nat.{sub-zero}
use native.Mathlib.Omega.{arith}
use Rattle.enumeration_quick_loops.proofs.LoopLaws.{from_next, from_here, from_end}
use Rattle.enumeration_quick_loops.proofs.inner.loop_from.Goals as goal

pub loop-h-init : goal.loop-h-init
loop-h-init c = rw sub-zero

pub loop_by-found-requires : goal.loop_by-found-requires
loop_by-found-requires c = (c.requires.0, (c.requires.1, c.word_length-length.ensures))

pub returns-then-found-ne0 : goal.returns-then-found-ne0
returns-then-found-ne0 c = from_here (c.args.t.now) (c.args.orders.now) (c.args.n) (c.args.e.0) (c.args.g.0) (c.args.n) (c.loop-h.h) (c.loop_by-found.ensures) (c.loop-h-test.true) (c.if-found-ne0.true) ∙ c.loop-h.invariant

pub loop-h-smaller : goal.loop-h-smaller
loop-h-smaller c = omega arith

pub loop-h-preserved : goal.loop-h-preserved
loop-h-preserved c = from_next (c.args.t.now) (c.args.orders.now) (c.args.n) (c.args.e.0) (c.args.g.0) (c.args.n) (c.loop-h.h) (c.loop_by-found.ensures) (c.loop-h-test.true) (c.if-found-ne0.false) ∙ c.loop-h.invariant

pub returns : goal.returns
returns c = from_end (c.args.t.now) (c.args.orders.now) (c.args.n) (c.args.e.0) (c.args.g.0) (c.args.n) (c.loop-h.h) (c.loop-h-test.false) ∙ c.loop-h.invariant
