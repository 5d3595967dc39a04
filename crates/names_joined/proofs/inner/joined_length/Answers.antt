use native.Mathlib.Omega.{arith}
use Rattle.names_joined.specs.Joined.{listed_names}
use Rattle.names_joined.proofs.Turns.{name_turn}
use Rattle.group_handles.proofs.Lists.{turned_all}
use Rattle.names_joined.proofs.Sums.{adding, adds_on, adds_long, adds_all}
use Rattle.names_joined.proofs.inner.joined_length.Goals as goal

pub loop-f-init : goal.loop-f-init
loop-f-init c = adding (listed_names c.args.g)

pub offset_bounds-g-f : goal.offset_bounds-g-f
offset_bounds-g-f c = omega (arith, c.names_listed-c.ensures.1, c.loop-f-test.true)

pub bounds-g-f : goal.bounds-g-f
bounds-g-f c = omega (arith, c.names_listed-c.ensures.1, c.loop-f-test.true)

pub returns-then-m-gt32 : goal.returns-then-m-gt32
returns-then-m-gt32 c = adds_long c.loop-f.invariant (name_turn c.args.g c.loop-f.f c.names_listed-c.ensures.0 c.loop-f-test.true) (omega (arith, c.if-m-gt32.true))

pub added-length-requires : goal.added-length-requires
added-length-requires c = c.if-m-gt32.false

pub overflow_add-length : goal.overflow_add-length
overflow_add-length c = omega (arith, c.names_listed-c.ensures.1, c.loop-f-test.true, c.loop-f.invariant.small, c.added-length.ensures.1)

pub loop-f-preserved : goal.loop-f-preserved
loop-f-preserved c = adds_on c.loop-f.invariant (name_turn c.args.g c.loop-f.f c.names_listed-c.ensures.0 c.loop-f-test.true) c.if-m-gt32.false c.added-length.ensures.0 c.added-length.ensures.1

pub returns : goal.returns
returns c = adds_all c.loop-f.invariant (turned_all (listed_names c.args.g) c.loop-f.f c.names_listed-c.ensures.0 c.loop-f-test.false)
