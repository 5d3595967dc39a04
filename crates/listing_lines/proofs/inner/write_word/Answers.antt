use Prim.Native.Nat.{◌+◌}
use native.Mathlib.Omega.{arith}
use borrow.Author.Rules.{rules}
use lib.ListN.{drop}
use Rattle.listing_lines.proofs.Laws.{begin, piece_ends, advance, finish, drop_next, drop_end}
use Rattle.listing_lines.proofs.inner.write_word.Goals as goal

pub loop-i-init : goal.loop-i-init
loop-i-init c = (search rules, begin c.requires)

pub put_byte-next-requires : goal.put_byte-next-requires
put_byte-next-requires c = piece_ends c.loop-i.invariant.1 (drop (c.loop-i.i + 1) c.args.word.now) (drop_next c.args.word.now c.loop-i.i c.loop-i-test.true)

pub loop-i-smaller : goal.loop-i-smaller
loop-i-smaller c = omega arith

pub loop-i-preserved : goal.loop-i-preserved
loop-i-preserved c = (omega arith, advance c.loop-i.invariant.1 (drop_next c.args.word.now c.loop-i.i c.loop-i-test.true) c.put_byte-next.ensures)

pub returns : goal.returns
returns c = finish c.loop-i.invariant.1 (drop_end c.args.word.now c.loop-i.i c.loop-i-test.false)
