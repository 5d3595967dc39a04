use native.Mathlib.Omega.{arith}
use Rattle.egg.proofs.Rooms.{false_true}
use Rattle.egg.proofs.Scans.{scanning, goes_on, ends}
use Rattle.build_checks_group.proofs.Commuting.{goes_here, goes_whole}
use Rattle.build_checks_group.proofs.inner.goes_at_once.Goals as goal

pub returns-then-t-from : goal.returns-then-t-from
returns-then-t-from c = λ h. absurd (false_true h)

pub returns-then-t-to : goal.returns-then-t-to
returns-then-t-to c = λ h. absurd (false_true h)

pub loop-g-init : goal.loop-g-init
loop-g-init c = (scanning, (omega (arith, c.if-t-from.false), omega (arith, c.if-t-to.false)))

pub read-y-requires : goal.read-y-requires
read-y-requires c = omega (arith, c.loop-g.invariant.1.0, c.loop-g-test.true)

pub returns-then-y-eq0 : goal.returns-then-y-eq0
returns-then-y-eq0 c = λ h. absurd (false_true h)

pub returns-then-w-y : goal.returns-then-w-y
returns-then-w-y c = λ h. absurd (false_true h)

pub read-after-requires : goal.read-after-requires
read-after-requires c = omega (arith, c.if-y-eq0.false, c.if-w-y.false)

pub read-requires : goal.read-requires
read-requires c = omega (arith, c.loop-g.invariant.1.1, c.loop-g-test.true)

pub returns-then-after-read : goal.returns-then-after-read
returns-then-after-read c = λ h. absurd (false_true h)

pub loop-g-preserved : goal.loop-g-preserved
loop-g-preserved c = (
  goes_on c.loop-g.invariant.0 c.loop-g-test.true
      (goes_here c.args.t.now c.args.w.now c.start-from.result c.start-to.result c.loop-g.g c.read-y.ensures c.read-after.ensures c.read.ensures c.if-after-read.false),
  c.loop-g.invariant.1,
)

pub returns : goal.returns
returns c = λ h. goes_whole c.args.t.now c.args.w.now c.args.n c.args.x.0 c.start-from.result c.start-to.result
    c.start-from.ensures.at c.start-to.ensures.at c.get.ensures (ends c.loop-g.invariant.0 c.loop-g-test.false)
