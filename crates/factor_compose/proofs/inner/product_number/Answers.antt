-- Along a short word the letters in its row lead to the product. Else the walk by the route and the inverse that were read are the product's. The count is answered
-- where nothing is said.
use mathlib.Core.Path.{sym, ◌∙◌}
use native.Mathlib.Omega.{arith}
use borrow.Author.Tests.{not-false}
use Rattle.factor_questions.proofs.Walks.{compose_short}
use Rattle.factor_compose.proofs.Numbers.{ending_reached}
use Rattle.factor_compose.proofs.inner.product_number.Goals as goal

pub returns-then-not-rows_within : goal.returns-then-not-rows_within
returns-then-not-rows_within c = λ h. absurd (omega arith)

pub returns-then-count-a : goal.returns-then-count-a
returns-then-count-a c = λ h. absurd (omega arith)

pub returns-then-count-b : goal.returns-then-count-b
returns-then-count-b c = λ h. absurd (omega arith)

pub recorded-len-requires : goal.recorded-len-requires
recorded-len-requires c = (c.rows_within.ensures c.if-not-rows_within.false, (c.if-count-b.false, omega arith))

pub recorded-c-requires : goal.recorded-c-requires
recorded-c-requires c = (c.rows_within.ensures c.if-not-rows_within.false, (c.if-count-b.false, omega arith))

pub advance-requires : goal.advance-requires
advance-requires c = (c.rows_within.ensures c.if-not-rows_within.false, (c.if-count-a.false, omega arith))

pub returns-then-len-le5 : goal.returns-then-len-le5
returns-then-len-le5 c = λ h. sym (compose_short c.args.s.now c.args.n c.args.count c.args.a.0 c.args.b.0 c.recorded-len.ensures c.if-len-le5.true) ∙ c.advance.ensures h c.args.b.0 c.if-count-b.false c.recorded-c.ensures

pub route-way-requires : goal.route-way-requires
route-way-requires c = (c.rows_within.ensures c.if-not-rows_within.false, (c.if-count-a.false, (c.if-count-b.false, c.recorded-len.ensures)))

pub returns-then-not-way : goal.returns-then-not-way
returns-then-not-way c = λ h. absurd (omega arith)

pub retrace-x-requires : goal.retrace-x-requires
retrace-x-requires c = (c.rows_within.ensures c.if-not-rows_within.false, ((c.route-way.ensures (not-false _ c.if-not-way.false)).starts, (c.route-way.ensures (not-false _ c.if-not-way.false)).along_element))

pub returns-then-count-x : goal.returns-then-count-x
returns-then-count-x c = λ h. absurd (omega arith)

pub recorded-z-requires : goal.recorded-z-requires
recorded-z-requires c = (c.rows_within.ensures c.if-not-rows_within.false, (c.if-count-x.false, omega arith))

pub returns-then-count-z : goal.returns-then-count-z
returns-then-count-z c = λ h. absurd (omega arith)

pub returns : goal.returns
returns c = λ h. ending_reached c.args.s.now c.args.n c.args.count c.args.a.0 c.args.b.0 c.route-way.result.inverted (c.route-way.ensures (not-false _ c.if-not-way.false)).product (c.retrace-x.ensures c.if-count-x.false) c.recorded-z.ensures c.chosen.ensures h
