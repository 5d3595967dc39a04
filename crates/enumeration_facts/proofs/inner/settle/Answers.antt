use Rattle.std.proofs.Common.{◌≡◌, ◌+◌, ◌-◌, length, arith, sym, ◌∙◌}
use native.Mathlib.Nat.{sub-zero}
use Rattle.enumeration_wake.specs.Waking.{state}
use Rattle.enumeration_facts.proofs.FactLaws.{settle_turn, settle_end, settle_spent}
use Rattle.enumeration_facts.proofs.inner.settle.Goals as goal

pub loop-init : goal.loop-init
loop-init c = rw sub-zero

pub returns-then-top-eq0 : goal.returns-then-top-eq0
returns-then-top-eq0 c = sym (settle_end c.args.n (state c.loop.t c.loop.w c.loop.top) (length c.args.w.now - c.loop.counter) c.if-top-eq0.true) ∙ c.loop.invariant

pub loop-preserved : goal.loop-preserved
loop-preserved c = let q : length c.args.w.now - (c.loop.counter + 1) ≡ length c.args.w.now - c.loop.counter - 1 = omega arith in rw q (settle_turn c.args.n c.loop.t c.loop.w c.loop.top (length c.args.w.now - c.loop.counter) c.if-top-eq0.false (omega (arith, c.loop-test.true)) c.get-below.ensures c.update_with_fact-top.ensures ∙ c.loop.invariant)

pub returns : goal.returns
returns c = sym (settle_spent c.args.n (state c.loop.t c.loop.w c.loop.top) (length c.args.w.now - c.loop.counter) (omega (arith, c.loop-test.false))) ∙ c.loop.invariant
