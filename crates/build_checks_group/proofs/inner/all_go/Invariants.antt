-- The loop is a scan of the elements, whose verdicts are `goes_row`'s.
use Rattle.build_checks_group.specs.Lefts.{goes_row, all_go}
use Rattle.egg.proofs.Scans.{Scanning}
use Rattle.build_checks_group.proofs.inner.all_go.Given as goal

abbrev pub invariant-loop-x : goal.invariant-loop-x
invariant-loop-x l = Scanning l.count (λ k. goes_row l.t l.w l.n k) l.x (all_go l.t l.w l.n l.count)
