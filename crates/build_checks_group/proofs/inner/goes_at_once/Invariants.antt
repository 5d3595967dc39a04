use Prim.Native.Nat.{◌+◌, ◌≤◌}
use lib.ListN.{length}
use Rattle.egg.specs.Scan.{scan}
use Rattle.egg.proofs.Scans.{Scanning}
use Rattle.build_checks_group.proofs.Commuting.{goes_at}
use Rattle.build_checks_group.proofs.inner.goes_at_once.Given as goal

abbrev pub invariant-loop-g : goal.invariant-loop-g
invariant-loop-g l = Scanning l.far (goes_at l.t l.w l.from l.to) l.g (scan l.far (goes_at l.t l.w l.from l.to) 0) × ((l.from + l.far ≤ length l.t) × (l.to + l.far ≤ length l.t))
