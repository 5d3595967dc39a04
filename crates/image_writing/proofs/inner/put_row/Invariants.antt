-- The places left of the row leave what the whole row leaves: each turn writes two bytes.
use Prim.Native.Nat.{◌-◌, ◌≤◌}
use mathlib.Core.Path.{◌≡◌}
use lib.ListN.{length}
use Rattle.egg.specs.Table.{step_of}
use Rattle.image_writing.specs.Written.{put_row}
use Rattle.image_writing.proofs.inner.put_row.Given as goal

abbrev pub invariant-loop-g : goal.invariant-loop-g
invariant-loop-g l = (length l.out ≡ length l.initial.out) × (l.g ≤ l.n) × (put_row (l.n - l.g) (step_of l.s l.n) l.n l.e.0 l.g l.out ≡ put_row l.n (step_of l.s l.n) l.n l.e.0 0 l.initial.out)
