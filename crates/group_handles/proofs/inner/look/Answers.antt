use Rattle.group_handles.proofs.Lists.{turn_at, turned_all}
use lib.ListN.{length, get_or}
use Rattle.build_lending.specs.Lending.{no_factor}
use Prim.Native.Nat.{◌<◌}
use native.Mathlib.Omega.{arith}
use Rattle.group_handles.specs.Handles.{handles}
use Rattle.group_handles.proofs.Sums.{looking, looks_on, looks_end}
use borrow.Author.Rules.{rules}
use Rattle.group_handles.proofs.inner.look.Goals as goal

pub loop-f-init : goal.loop-f-init
loop-f-init c = (omega arith, looking (length c.args.table.now) (handles c.args.g))

pub times-elements-requires : goal.times-elements-requires
times-elements-requires c = c.loop-f.invariant.1.caps.small

pub overflow_add-generators : goal.overflow_add-generators
overflow_add-generators c = let k : (get_or c.args.g.factors c.loop-f.f no_factor).generators < 256 = search rules in omega (arith, c.listed-c.ensures.1, c.loop-f-test.true, c.loop-f.invariant.1.adds.small)

pub loop-f-preserved : goal.loop-f-preserved
loop-f-preserved c = (omega (arith, c.loop-f-test.true), looks_on c.loop-f.invariant.1 (turn_at c.args.g c.loop-f.f c.listed-c.ensures.0 c.loop-f-test.true) c.fits.ensures c.both-fit.ensures c.times-elements.ensures (search rules))

pub returns : goal.returns
returns c = (looks_end c.loop-f.invariant.1 (turned_all (handles c.args.g) c.loop-f.f c.listed-c.ensures.0 c.loop-f-test.false), omega (arith, c.loop-f.invariant.0, c.listed-c.ensures.1, c.loop-f.invariant.1.adds.small))
