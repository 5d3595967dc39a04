use Prim.Native.Nat.{◌-◌, ◌+◌}
use native.Mathlib.Omega.{arith}
use native.Mathlib.Nat.{sub-zero}
use borrow.Author.Rules.{rules}
use Rattle.listing_lines.specs.Text.{lines_text}
use Rattle.listing_lines.proofs.Laws.{begin, piece_ends, advance, finish, lines_next, lines_end}
use Rattle.listing_lines.proofs.inner.write_lines.Goals as goal

pub loop-e-init : goal.loop-e-init
loop-e-init c = (search rules, rw sub-zero (begin c.requires))

pub write_line-next-requires : goal.write_line-next-requires
write_line-next-requires c = piece_ends c.loop-e.invariant.1 (lines_text (c.args.count - (c.loop-e.e + 1)) c.args.t.now c.args.n (c.loop-e.e + 1)) (lines_next c.args.t.now c.args.n c.args.count c.loop-e-test.true)

pub loop-e-smaller : goal.loop-e-smaller
loop-e-smaller c = omega arith

pub loop-e-preserved : goal.loop-e-preserved
loop-e-preserved c = (omega arith, advance c.loop-e.invariant.1 (lines_next c.args.t.now c.args.n c.args.count c.loop-e-test.true) c.write_line-next.ensures)

pub returns : goal.returns
returns c = finish c.loop-e.invariant.1 (lines_end c.args.t.now c.args.n c.args.count c.loop-e-test.false)
