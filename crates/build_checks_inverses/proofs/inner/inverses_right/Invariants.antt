-- The loop is a scan of the elements; a turn's test is that of the two inverses read.
use Rattle.build_checks_inverses.specs.Inverses.{inverse_at, inverses_right}
use Rattle.egg.proofs.Scans.{Scanning}
use Rattle.build_checks_inverses.proofs.inner.inverses_right.Given as goal

abbrev pub invariant-loop-e : goal.invariant-loop-e
invariant-loop-e l = Scanning l.count (λ k. inverse_at l.t l.n k) l.e (inverses_right l.t l.n l.count)
