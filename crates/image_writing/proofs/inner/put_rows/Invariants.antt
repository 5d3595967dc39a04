-- The rows left to write from here leave what the whole leaves: each turn writes one.
use Prim.Native.Nat.{◌-◌}
use mathlib.Core.Path.{◌≡◌}
use lib.ListN.{length}
use Rattle.egg.specs.Table.{step_of}
use Rattle.image_writing.specs.Written.{put_rows}
use Rattle.image_writing.proofs.inner.put_rows.Given as goal

abbrev pub invariant-loop-e : goal.invariant-loop-e
invariant-loop-e l = (length l.out ≡ length l.initial.out) × (put_rows (l.count - l.e) (step_of l.s l.n) l.n l.e l.out ≡ put_rows l.count (step_of l.s l.n) l.n 0 l.initial.out)
