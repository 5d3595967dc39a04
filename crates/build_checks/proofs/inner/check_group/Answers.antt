-- The first refusal decides each `then_checked`; the last answer is `check_rest`'s. The hints are gone from the work by then.
use Rattle.egg.proofs.Refusing.{handed_on}
use mathlib.Core.Path.{sym, ◌∙◌}
use Rattle.build_checks.specs.Checks.{check_group}
use Rattle.build_checks.proofs.Counting.{counted_again}
use Rattle.build_checks.proofs.inner.check_group.Goals as goal

pub returns-in_err-check_table : goal.returns-in_err-check_table
unfolding check_group
returns-in_err-check_table c = rw (handed_on c.from_residual.ensures, ← c.check_table.ensures, c.in_err-check_table.was)

pub returns-in_err-counts_right : goal.returns-in_err-counts_right
unfolding check_group
returns-in_err-counts_right c = rw (handed_on c.from_residual-in_err-counts_right.ensures, ← c.check_table.ensures, c.in_ok-check_table.was, ← c.wipe.ensures, ← c.arrivals.ensures, ← c.counts_right.ensures, c.in_err-counts_right.was)

pub fill_inverses-requires : goal.fill_inverses-requires
fill_inverses-requires c = c.fill_hints.ensures.hints

pub returns : goal.returns
unfolding check_group
returns c = let again = counted_again (sym c.counts_right.ensures ∙ c.in_ok-counts_right.was)
    c.fill_hints.ensures c.count_again.ensures in
    rw (← c.check_table.ensures, c.in_ok-check_table.was, ← c.wipe.ensures, ← c.arrivals.ensures, ← c.counts_right.ensures, c.in_ok-counts_right.was, ← c.fill_inverses.ensures, ← again)
    c.check_rest.ensures
