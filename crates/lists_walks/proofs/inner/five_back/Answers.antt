use native.Mathlib.Omega.{arith}
use Rattle.lists_walks.proofs.Letters.{spelling_start, spelling_on, spelling_end}
use Rattle.lists_walks.proofs.inner.five_back.Goals as goal

pub loop-init : goal.loop-init
loop-init c = record { p = spelling_start _ _ (c.requires.1.p); q = spelling_start _ _ (c.requires.1.q); r = spelling_start _ _ (c.requires.1.r); t = spelling_start _ _ (c.requires.1.t) }

pub four_back-y-requires : goal.four_back-y-requires
four_back-y-requires c = (c.requires.0, record { p = c.loop.invariant.p.stored; q = c.loop.invariant.q.stored; r = c.loop.invariant.r.stored; t = c.loop.invariant.t.stored })

pub returns-then-y-eq0 : goal.returns-then-y-eq0
returns-then-y-eq0 c = λ h. absurd (omega (arith, c.if-y-eq0.true))

pub loop-preserved : goal.loop-preserved
loop-preserved c = let back = c.four_back-y.ensures (omega (arith, c.if-y-eq0.false)) in record { p = spelling_on (c.loop.invariant.p) (omega arith) (omega arith) back.p; q = spelling_on (c.loop.invariant.q) (omega arith) (omega arith) back.q; r = spelling_on (c.loop.invariant.r) (omega arith) (omega arith) back.r; t = spelling_on (c.loop.invariant.t) (omega arith) (omega arith) back.t }

pub returns-then-not-all_below : goal.returns-then-not-all_below
returns-then-not-all_below c = λ h. absurd (omega arith)

pub returns : goal.returns
returns c = λ h. let below = c.all_below.ensures c.if-not-all_below.false in record { p = spelling_end (c.loop.invariant.p) (omega arith) below.p; q = spelling_end (c.loop.invariant.q) (omega arith) below.q; r = spelling_end (c.loop.invariant.r) (omega arith) below.r; t = spelling_end (c.loop.invariant.t) (omega arith) below.t }
