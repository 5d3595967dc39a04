-- One law for each way in which the exponent loses its sign.
use Rattle.group_powers.proofs.Signs.{positive_cast, negative_fits, negative_cast}
use Rattle.lists_powers.proofs.Exponents.{no_power, power_is, base_positive, base_least, base_negative}
use borrow.Author.Rules.{rules}
use Rattle.lists_powers.proofs.inner.positive.Goals as goal

pub returns-then-count-a : goal.returns-then-count-a
returns-then-count-a c = λ p h. absurd (no_power h)

pub overflow_cast-up : goal.overflow_cast-up
overflow_cast-up c = positive_cast (c.args.e) (c.ranges.e) (c.if-e-ge0.true)

pub returns-then-e-ge0 : goal.returns-then-e-ge0
returns-then-e-ge0 c = λ p h. power_is h (base_positive (search rules) (c.args.e) (c.ranges.e) (c.if-e-ge0.true))

pub returns-in_default : goal.returns-in_default
returns-in_default c = λ p h. absurd (no_power h)

pub returns-then-e-eqminus2147483648 : goal.returns-then-e-eqminus2147483648
returns-then-e-eqminus2147483648 c = λ p h. power_is h (base_least (search rules) (c.args.e) (c.ranges.e) (c.inverse_in-back.ensures) (c.in-Ok.is) (c.if-e-ge0.false) (c.if-e-eqminus2147483648.true))

pub overflow_sub-down : goal.overflow_sub-down
overflow_sub-down c = negative_fits (c.args.e) (c.ranges.e) (c.if-e-ge0.false) (c.if-e-eqminus2147483648.false)

pub overflow_cast-down : goal.overflow_cast-down
overflow_cast-down c = negative_cast (c.args.e) (c.ranges.e) (c.if-e-ge0.false) (c.if-e-eqminus2147483648.false)

pub returns : goal.returns
returns c = λ p h. power_is h (base_negative (search rules) (c.args.e) (c.ranges.e) (c.inverse_in-back.ensures) (c.in-Ok.is) (c.if-e-ge0.false) (c.if-e-eqminus2147483648.false))
