-- The loop is a scan of the generators; a turn's test is that of the identity's step.
use Prim.Native.Nat.{◌+◌}
use lib.Dec.{eqb}
use Rattle.egg.specs.Table.{pick, step_of}
use Rattle.egg.specs.Answers.{fine}
use Rattle.egg.specs.Scan.{refused_of}
use Rattle.build_checks_group.specs.Lefts.{identity_row}
use Rattle.egg.proofs.Scans.{Scanning}
use Rattle.build_checks_group.proofs.inner.identity_row.Given as goal

abbrev pub invariant-loop-g : goal.invariant-loop-g
invariant-loop-g l = Scanning l.n (λ k. pick (eqb (step_of l.t l.n 0 k) (k + 1)) fine (refused_of 11 k 0 0)) l.g (identity_row l.t l.n)
