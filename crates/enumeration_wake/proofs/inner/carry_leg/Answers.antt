use Rattle.std.proofs.Common.{sym, refl, ◌∙◌, zero-le, le_refl, arith, rules}
use Rattle.enumeration_wake.proofs.Carrying.{carry_turn}
use Rattle.enumeration_wake.proofs.WakeLaws.{pos}
use Rattle.enumeration_fill.proofs.Alike.{moves_forth, moves_back}
use Rattle.enumeration_wake.proofs.inner.carry_leg.Goals as goal

pub overflow_sub-forth : goal.overflow_sub-forth
overflow_sub-forth c = moves_forth (c.args.t.now) (c.args.n) (c.requires)

pub overflow_sub-back : goal.overflow_sub-back
overflow_sub-back c = moves_back (c.args.t.now) (c.args.n) (c.requires)

pub loop-left-init : goal.loop-left-init
loop-left-init c = (λ side h. refl, (le_refl _, (refl, search rules)))

pub shape_of-w-then-at-eq0 : goal.shape_of-w-then-at-eq0
shape_of-w-then-at-eq0 c = c.loop-left.invariant.1.1.0

pub returns-then-at-eq0 : goal.returns-then-at-eq0
returns-then-at-eq0 c = (c.loop-left.invariant.0 (c.args.side) (c.list_at-list.ensures.at), (c.loop-left.invariant.1.0, zero-le))

pub overflow_sub-place : goal.overflow_sub-place
overflow_sub-place c = pos (c.loop-left.at) (c.if-at-eq0.false)

pub overflow_cast-place : goal.overflow_cast-place
overflow_cast-place c = omega arith

pub read_row-row-requires : goal.read_row-row-requires
read_row-row-requires c = omega arith

pub overflow_add-forth : goal.overflow_add-forth
overflow_add-forth c = omega (arith, moves_forth (c.args.t.now) (c.args.n) (c.requires), moves_back (c.args.t.now) (c.args.n) (c.requires), c.requires.apart)

pub shape_of-w-then-not-alike : goal.shape_of-w-then-not-alike
shape_of-w-then-not-alike c = c.loop-left.invariant.1.1.0

pub returns-then-not-alike : goal.returns-then-not-alike
returns-then-not-alike c = (c.loop-left.invariant.0 (c.args.side) (c.list_at-list.ensures.at), (c.loop-left.invariant.1.0, zero-le))

pub overflow_add-place : goal.overflow_add-place
overflow_add-place c = omega arith

pub overflow_add-moved : goal.overflow_add-moved
overflow_add-moved c = omega (arith, (c.alike.ensures (c.if-not-alike.false)).wide)

pub overflow_sub-moved : goal.overflow_sub-moved
overflow_sub-moved c = omega (arith, (c.alike.ensures (c.if-not-alike.false)).wide)

pub write_row-requires : goal.write_row-requires
write_row-requires c = omega arith

pub append-requires : goal.append-requires
append-requires c = (omega (arith, c.list_at-list.ensures.small), omega arith)

pub overflow_sub-left : goal.overflow_sub-left
overflow_sub-left c = pos (c.loop-left.left) (c.loop-left-test.true)

pub shape_of-w-then-next-guess : goal.shape_of-w-then-next-guess
shape_of-w-then-next-guess c = c.append.auto.w ∙ c.write_row.auto.w ∙ c.loop-left.invariant.1.1.0

pub returns-then-next-guess : goal.returns-then-next-guess
returns-then-next-guess c = (carry_turn (c.args.t.now) (c.loop-left.w) (c.args.n) (c.args.top) (c.args.side) (c.args.before) (c.args.after) (c.requires) (c.loop-left.at) (c.loop-left.left) (c.list_at-list.ensures.at) (c.loop-left-test.true) (c.if-at-eq0.false) (c.read_row-row.ensures) (c.alike.ensures (c.if-not-alike.false)) (c.get-next.ensures) (c.write_row.ensures) (c.append.ensures) ∙ c.loop-left.invariant.0 (c.args.side) (c.list_at-list.ensures.at), (omega (arith, c.loop-left.invariant.1.0), omega (arith, c.loop-left.invariant.1.0, pos (c.loop-left.left) (c.loop-left-test.true))))

pub loop-left-smaller : goal.loop-left-smaller
loop-left-smaller c = omega (arith, pos (c.loop-left.left) (c.loop-left-test.true))

pub loop-left-preserved : goal.loop-left-preserved
loop-left-preserved c = (λ side h. carry_turn (c.args.t.now) (c.loop-left.w) (c.args.n) (c.args.top) side (c.args.before) (c.args.after) (c.requires) (c.loop-left.at) (c.loop-left.left) h (c.loop-left-test.true) (c.if-at-eq0.false) (c.read_row-row.ensures) (c.alike.ensures (c.if-not-alike.false)) (sym (c.if-next-guess.false) ∙ c.get-next.ensures) (c.write_row.ensures) (c.append.ensures) ∙ c.loop-left.invariant.0 side h, (omega (arith, c.loop-left.invariant.1.0), (c.append.auto.w ∙ c.write_row.auto.w ∙ c.loop-left.invariant.1.1.0, search rules)))

pub shape_of-w : goal.shape_of-w
shape_of-w c = c.loop-left.invariant.1.1.0

pub returns : goal.returns
returns c = (c.loop-left.invariant.0 (c.args.side) (c.list_at-list.ensures.at), (c.loop-left.invariant.1.0, zero-le))
