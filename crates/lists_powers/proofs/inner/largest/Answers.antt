use borrow.Author.Rules.{rules}
use Rattle.lists_powers.proofs.Places.{largest_none, larger_next, largest_all}
use Rattle.lists_powers.proofs.inner.largest.Goals as goal

pub loop-i-init : goal.loop-i-init
loop-i-init c = largest_none

pub loop-i-preserved : goal.loop-i-preserved
loop-i-preserved c = larger_next (c.loop-i.invariant) (c.larger-most.ensures)

pub returns : goal.returns
returns c = largest_all (c.loop-i.invariant) (search rules)
