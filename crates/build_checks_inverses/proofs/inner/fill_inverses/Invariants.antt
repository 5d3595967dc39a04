-- The invariant is `Filling`: the inverses that are left, on the table as it is, give what all give, and those that were written are what the walk gives.
-- A turn is one step of `fill_inverses`.
use Rattle.build_checks_inverses.proofs.Hints.{Filling}
use Rattle.build_checks_inverses.proofs.inner.fill_inverses.Given as goal

abbrev pub invariant-loop-e : goal.invariant-loop-e
invariant-loop-e l = Filling l.initial.t l.n l.count l.e l.t
