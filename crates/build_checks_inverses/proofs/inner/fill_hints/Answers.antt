use borrow.Author.Rules.{rules}
use Rattle.build_checks_inverses.proofs.Hints.{no_hints, all_kept, next_hint, put_beyond, hints_end}
use Rattle.build_checks_inverses.proofs.inner.fill_hints.Goals as goal

pub loop-e-init : goal.loop-e-init
loop-e-init c = (no_hints _ _ _, all_kept _ _)

pub loop-e-preserved : goal.loop-e-preserved
loop-e-preserved c = (
  rw c.put.ensures (next_hint c.loop-e.invariant.0 (search rules) (c.hint_of-h.ensures c.loop-e.invariant.0)),
  rw c.put.ensures (put_beyond _ c.loop-e.invariant.1 c.loop-e-test.true),
)

pub returns : goal.returns
returns c = record { hints = hints_end _ c.loop-e.invariant.0 c.loop-e-test.false; rest = c.loop-e.invariant.1 }
