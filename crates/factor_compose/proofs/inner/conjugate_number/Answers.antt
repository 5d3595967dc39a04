-- Two products and an inverse that were read.
use native.Mathlib.Omega.{arith}
use Rattle.egg.proofs.Laws.{got}
use Rattle.factor_compose.proofs.Numbers.{conjugate_reached}
use Rattle.factor_compose.proofs.inner.conjugate_number.Goals as goal

pub returns-then-count-c : goal.returns-then-count-c
returns-then-count-c c = λ h. absurd (omega arith)

pub returns-then-count-i : goal.returns-then-count-i
returns-then-count-i c = λ h. absurd (omega arith)

pub returns : goal.returns
returns c = λ h. conjugate_reached c.args.s.now c.args.n c.args.count c.args.a.0 c.args.b.0 (c.product_number-c.ensures c.if-count-c.false) (got c.args.s.now c.get-i.ensures c.inverse_at.ensures.at) c.if-count-i.false (c.product_number.ensures h)
