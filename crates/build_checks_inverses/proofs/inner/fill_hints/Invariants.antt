-- The invariant: the elements that were passed have their hints, and nothing else of the work has changed.
use Rattle.build_checks_inverses.specs.Hints.{Hints, Beyond}
use Rattle.build_checks_inverses.proofs.inner.fill_hints.Given as goal

abbrev pub invariant-loop-e : goal.invariant-loop-e
invariant-loop-e l = Hints l.t l.w l.n l.e × Beyond l.initial.w l.w l.count
