use native.Mathlib.Omega.{arith}
use Rattle.names_joined.specs.Joined.{listed_names}
use Rattle.names_joined.proofs.Turns.{name_turn}
use Rattle.group_handles.proofs.Lists.{turned_all}
use Rattle.names_joined.proofs.Puts.{joining, as_long, fits_here, gap_room, name_room, joins_on, all_joined}
use Rattle.names_joined.proofs.inner.write.Goals as goal

pub loop-f-init : goal.loop-f-init
loop-f-init c = joining (listed_names c.args.g) c.args.out.now

pub offset_bounds-g-f : goal.offset_bounds-g-f
offset_bounds-g-f c = omega (arith, c.names_listed-c.ensures.1, c.loop-f-test.true)

pub bounds-g-f : goal.bounds-g-f
bounds-g-f c = omega (arith, c.names_listed-c.ensures.1, c.loop-f-test.true)

pub put_gap-at-requires : goal.put_gap-at-requires
put_gap-at-requires c = gap_room (listed_names c.args.g) c.loop-f.f (name_turn c.args.g c.loop-f.f c.names_listed-c.ensures.0 c.loop-f-test.true) c.loop-f.invariant c.requires.1

pub put_name-at-requires : goal.put_name-at-requires
put_name-at-requires c = (fits_here (listed_names c.args.g) c.loop-f.f (name_turn c.args.g c.loop-f.f c.names_listed-c.ensures.0 c.loop-f-test.true) c.requires.0, name_room (listed_names c.args.g) c.loop-f.f (name_turn c.args.g c.loop-f.f c.names_listed-c.ensures.0 c.loop-f-test.true) c.loop-f.invariant c.put_gap-at.ensures c.requires.1)

pub loop-f-preserved : goal.loop-f-preserved
loop-f-preserved c = joins_on (listed_names c.args.g) c.loop-f.f (name_turn c.args.g c.loop-f.f c.names_listed-c.ensures.0 c.loop-f-test.true) c.loop-f.invariant c.put_gap-at.ensures c.put_name-at.ensures

pub shape_of-out : goal.shape_of-out
shape_of-out c = as_long c.loop-f.invariant c.requires.1

pub returns : goal.returns
returns c = all_joined (listed_names c.args.g) c.loop-f.f c.loop-f.invariant (turned_all (listed_names c.args.g) c.loop-f.f c.names_listed-c.ensures.0 c.loop-f-test.false)
