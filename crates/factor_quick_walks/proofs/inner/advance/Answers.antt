use native.Mathlib.Omega.{arith}
use Rattle.factor_quick_walks.proofs.Numbers.{along_none, along_cell, onward_on, onward_whole}
use Rattle.factor_quick_walks.proofs.inner.advance.Goals as goal

pub returns-then-letters-eq0 : goal.returns-then-letters-eq0
returns-then-letters-eq0 c = λ h e l q. along_none c.args.s.now c.args.n c.args.count c.args.from.0 e c.if-letters-eq0.true

pub returns-then-x-eq0 : goal.returns-then-x-eq0
returns-then-x-eq0 c = λ h. absurd (omega arith)

pub one_letter-y-requires : goal.one_letter-y-requires
one_letter-y-requires c = (c.requires.0, (omega (arith, c.if-x-eq0.false), ((c.advance_two-x.ensures (omega (arith, c.if-x-eq0.false))).small, omega arith)))

pub returns-then-y-eq0 : goal.returns-then-y-eq0
returns-then-y-eq0 c = λ h. absurd (omega arith)

pub one_letter-z-requires : goal.one_letter-z-requires
one_letter-z-requires c = (c.requires.0, (omega (arith, c.if-y-eq0.false), ((c.one_letter-y.ensures (omega (arith, c.if-y-eq0.false))).small, omega arith)))

pub returns-then-z-eq0 : goal.returns-then-z-eq0
returns-then-z-eq0 c = λ h. absurd (omega arith)

pub one_letter-last-requires : goal.one_letter-last-requires
one_letter-last-requires c = (c.requires.0, (omega (arith, c.if-z-eq0.false), ((c.one_letter-z.ensures (omega (arith, c.if-z-eq0.false))).small, omega arith)))

pub returns-then-last-eq0 : goal.returns-then-last-eq0
returns-then-last-eq0 c = λ h. absurd (omega arith)

pub returns : goal.returns
returns c = λ h e l q. along_cell c.args.s.now c.args.n c.args.count c.args.from.0 e l q (omega (arith, c.if-letters-eq0.false)) c.requires.1.1 (omega arith) (onward_whole c.args.from.0 c.requires.1.1 (onward_on (c.advance_two-x.ensures (omega (arith, c.if-x-eq0.false))) (onward_on (c.one_letter-y.ensures (omega (arith, c.if-y-eq0.false))) (onward_on (c.one_letter-z.ensures (omega (arith, c.if-z-eq0.false))) (c.one_letter-last.ensures (omega (arith, c.if-last-eq0.false)))))))
