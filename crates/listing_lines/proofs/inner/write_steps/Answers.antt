use Prim.Native.Nat.{◌-◌, ◌+◌}
use native.Mathlib.Omega.{arith}
use native.Mathlib.Nat.{sub-zero}
use borrow.Author.Rules.{rules}
use Rattle.listing_lines.specs.Text.{steps_text}
use Rattle.listing_lines.proofs.Laws.{begin, piece_ends, advance, finish, steps_next, steps_end}
use Rattle.listing_lines.proofs.inner.write_steps.Goals as goal

pub loop-g-init : goal.loop-g-init
loop-g-init c = (search rules, rw sub-zero (begin c.requires))

pub write_spaced-next-requires : goal.write_spaced-next-requires
write_spaced-next-requires c = piece_ends c.loop-g.invariant.1 (steps_text (c.args.n - (c.loop-g.g + 1)) c.args.t.now c.args.n c.args.e.0 (c.loop-g.g + 1)) (steps_next c.args.t.now c.args.n c.args.e.0 c.step.ensures c.loop-g-test.true)

pub loop-g-smaller : goal.loop-g-smaller
loop-g-smaller c = omega arith

pub loop-g-preserved : goal.loop-g-preserved
loop-g-preserved c = (omega arith, advance c.loop-g.invariant.1 (steps_next c.args.t.now c.args.n c.args.e.0 c.step.ensures c.loop-g-test.true) c.write_spaced-next.ensures)

pub returns : goal.returns
returns c = finish c.loop-g.invariant.1 (steps_end c.args.t.now c.args.n c.args.e.0 c.loop-g-test.false)
