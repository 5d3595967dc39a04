-- One law for each answer: a positive exponent, a negative one, and the least.
use Rattle.egg.proofs.Refusing.{handed_on}
use mathlib.Core.Path.{refl, sym, ◌∙◌}
use Rattle.factor_questions.specs.Walks.{compose_in, inverse_in}
use Rattle.group_powers.proofs.Signs.{positive_cast, powers_positive, powers_refused, least_refused, least_squared, negative_fits, negative_cast, powers_negative}
use Rattle.group_powers.proofs.inner.one.powi_in.Goals as goal

pub overflow_cast-i : goal.overflow_cast-i
overflow_cast-i c = positive_cast c.args.i c.ranges.i c.if-i-ge0.true

pub returns-then-i-ge0 : goal.returns-then-i-ge0
returns-then-i-ge0 c = powers_positive 1073741824 (compose_in c.args.s.now c.args.n c.args.count) (inverse_in c.args.s.now c.args.n c.args.count) c.args.a.0 c.args.i c.ranges.i c.if-i-ge0.true c.power.ensures

pub returns-in_err-b : goal.returns-in_err-b
returns-in_err-b c = handed_on c.from_residual.ensures ∙ sym c.in_err-b.was ∙ powers_refused 1073741824 (compose_in c.args.s.now c.args.n c.args.count) (inverse_in c.args.s.now c.args.n c.args.count) c.args.a.0 c.inverse_in.ensures c.args.i c.ranges.i c.if-i-ge0.false c.in_err-b.was

pub returns-in_err-x : goal.returns-in_err-x
returns-in_err-x c = handed_on c.from_residual-in_err-x.ensures ∙ sym c.in_err-x.was ∙ least_refused 1073741824 (compose_in c.args.s.now c.args.n c.args.count) (inverse_in c.args.s.now c.args.n c.args.count) c.args.a.0 c.inverse_in.ensures c.in_ok-b.was c.args.i c.ranges.i c.if-i-ge0.false c.if-i-eq-LEAST.true refl c.power-then-i-eq-LEAST.ensures c.in_err-x.was

pub returns-then-i-eq-LEAST : goal.returns-then-i-eq-LEAST
returns-then-i-eq-LEAST c = least_squared 1073741824 (compose_in c.args.s.now c.args.n c.args.count) (inverse_in c.args.s.now c.args.n c.args.count) c.args.a.0 c.inverse_in.ensures c.in_ok-b.was c.args.i c.ranges.i c.if-i-ge0.false c.if-i-eq-LEAST.true refl c.power-then-i-eq-LEAST.ensures c.in_ok-x.was c.compose_elements.ensures

pub overflow_sub-i : goal.overflow_sub-i
overflow_sub-i c = negative_fits c.args.i c.ranges.i c.if-i-ge0.false c.if-i-eq-LEAST.false

pub overflow_cast-i-2 : goal.overflow_cast-i-2
overflow_cast-i-2 c = negative_cast c.args.i c.ranges.i c.if-i-ge0.false c.if-i-eq-LEAST.false

pub returns : goal.returns
returns c = powers_negative c.args.i c.ranges.i c.if-i-ge0.false c.if-i-eq-LEAST.false 1073741824 (compose_in c.args.s.now c.args.n c.args.count) (inverse_in c.args.s.now c.args.n c.args.count) c.args.a.0 refl c.inverse_in.ensures c.in_ok-b.was c.power-2.ensures
