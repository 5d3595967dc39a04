-- The loop is a scan of the counts; a turn's test is the count's, by what `get` ensures.
use lib.ListN.{get_or}
use lib.Dec.{eqb}
use Rattle.egg.specs.Table.{pick}
use Rattle.egg.specs.Answers.{fine}
use Rattle.egg.specs.Scan.{refused_of}
use Rattle.build_checks.specs.Checks.{counts_right}
use Rattle.egg.proofs.Scans.{Scanning}
use Rattle.build_checks.proofs.inner.counts_right.Given as goal

abbrev pub invariant-loop-e : goal.invariant-loop-e
invariant-loop-e l = Scanning l.count (λ k. pick (eqb (get_or l.w k 0) l.n) fine (refused_of 9 k l.n 0)) l.e (counts_right l.w l.n l.count)
