-- A scan, entry by entry; the limit is known as far as 32 bits can tell.
use Prim.Native.Nat.{ℕ}
use mathlib.Core.Path.{◌≡◌}
use lib.ListN.{length}
use Rattle.group_handles.specs.Handles.{capped}
use Rattle.egg.proofs.Scans.{Scanning}
use Rattle.subgroup_build.specs.Generated.{entry_right, entries_right}
use Rattle.subgroup_build.proofs.inner.entries_right.Given as goal

abbrev pub invariant-loop-i : goal.invariant-loop-i
invariant-loop-i l = (M : ℕ) → l.m ≡ capped M → Scanning (length l.gens) (entry_right M l.gens) l.i (entries_right M l.gens)
