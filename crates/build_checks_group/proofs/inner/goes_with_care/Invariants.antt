-- The loop is a scan of the generators; a turn's test is that of the work after the step and the step after the work.
use lib.ListN.{get_or}
use lib.Dec.{eqb}
use Rattle.egg.specs.Table.{pick, step_of}
use Rattle.egg.specs.Answers.{fine}
use Rattle.egg.specs.Scan.{refused_of}
use Rattle.build_checks_group.specs.Lefts.{goes_row}
use Rattle.egg.proofs.Scans.{Scanning}
use Rattle.build_checks_group.proofs.inner.goes_with_care.Given as goal

abbrev pub invariant-loop-g : goal.invariant-loop-g
invariant-loop-g l = Scanning l.n (λ k. pick (eqb (get_or l.w (step_of l.t l.n l.x.0 k) 0) (step_of l.t l.n (get_or l.w l.x.0 0) k)) fine (refused_of 12 0 0 0)) l.g
    (goes_row l.t l.w l.n l.x.0)
