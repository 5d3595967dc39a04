use Prim.Native.Nat.{◌<◌}
use lib.ListN.{length, get_or}
use native.Mathlib.Omega.{arith}
use borrow.Author.Rules.{rules}
use Rattle.build_lending.specs.Lending.{no_factor}
use Rattle.group_handles.specs.Handles.{handles}
use Rattle.group_handles.proofs.Lists.{handle_at_lem}
use Rattle.group_walk.proofs.Owners.{owning, owns_on, owns_all}
use Rattle.group_walk.proofs.inner.find.Goals as goal

pub loop-f-init : goal.loop-f-init
loop-f-init c = owning (handles (c.args.g)) (c.args.x)

pub overflow_cast-f : goal.overflow_cast-f
overflow_cast-f c = omega (arith, c.listed-c.ensures.1, c.loop-f-test.true)

pub overflow_add-generators : goal.overflow_add-generators
overflow_add-generators c = let k : (get_or (c.args.g.factors) (c.loop-f.f) no_factor).generators < 256 = search rules in omega (arith, c.listed-c.ensures.1, c.loop-f-test.true, c.loop-f.invariant.small)

pub loop-f-preserved : goal.loop-f-preserved
loop-f-preserved c = let l : c.loop-f.f < length (handles (c.args.g)) = omega (arith, c.listed-c.ensures.0, c.loop-f-test.true) in owns_on (c.loop-f.invariant) l (handle_at_lem (c.args.g) (c.loop-f.f) (c.listed-c.ensures.0) (c.loop-f-test.true)) (search rules) (c.chosen-at.ensures) (c.chosen-before.ensures)

pub returns : goal.returns
returns c = λ l. owns_all (c.loop-f.invariant) (omega (arith, c.listed-c.ensures.0, c.loop-f-test.false)) l
