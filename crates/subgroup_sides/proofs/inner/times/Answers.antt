-- As handles' where the second has 32 bits; else it is 2^32.
use Rattle.subgroup_sides.proofs.Counts.{times_none_left, times_large_right}
use Rattle.subgroup_sides.proofs.inner.times.Goals as goal

pub returns-then-q-le4294967295 : goal.returns-then-q-le4294967295
returns-then-q-le4294967295 c = c.times.ensures

pub returns-then-p-eq0 : goal.returns-then-p-eq0
returns-then-p-eq0 c = times_none_left c.args.p c.args.q c.if-p-eq0.true

pub returns-else-p-eq0 : goal.returns-else-p-eq0
returns-else-p-eq0 c = times_large_right c.args.p c.args.q c.if-p-eq0.false c.if-q-le4294967295.false
