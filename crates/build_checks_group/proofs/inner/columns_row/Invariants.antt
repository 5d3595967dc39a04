-- The loop is a scan of the generators; a turn's test is that of the step back and the step.
use lib.Dec.{eqb}
use Rattle.egg.specs.Table.{pick, step_of, back_of}
use Rattle.egg.specs.Answers.{fine}
use Rattle.egg.specs.Scan.{refused_of}
use Rattle.build_checks_group.specs.Lefts.{columns_row}
use Rattle.egg.proofs.Scans.{Scanning}
use Rattle.build_checks_group.proofs.inner.columns_row.Given as goal

abbrev pub invariant-loop-g : goal.invariant-loop-g
invariant-loop-g l = Scanning l.n (λ k. pick (eqb (step_of l.t l.n (back_of l.t l.n l.e.0 k) k) l.e.0) fine (refused_of 12 0 0 0)) l.g (columns_row l.t l.n l.e.0)
