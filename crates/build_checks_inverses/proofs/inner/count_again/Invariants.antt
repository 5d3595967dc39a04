-- The invariant: n stands at the elements that were passed, and nothing else of the work has changed.
use Rattle.build_checks_inverses.specs.Hints.{CountedAgain}
use Rattle.build_checks_inverses.proofs.inner.count_again.Given as goal

abbrev pub invariant-loop-e : goal.invariant-loop-e
invariant-loop-e l = CountedAgain l.initial.w l.w l.n l.e l.count
