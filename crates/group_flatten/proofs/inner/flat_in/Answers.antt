-- The table is zeroed, read into, and finished.
use lib.ListN.{length}
use mathlib.Core.List.{List}
use Prim.Native.Nat.{ℕ}
use mathlib.Core.Path.{ap, ◌∙◌}
use Rattle.group_handles.specs.Handles.{handles}
use Rattle.group_digits.specs.Digits.{step_in}
use Rattle.group_flatten.specs.Flat.{rows_by}
use Rattle.group_flatten.proofs.Flats.{flat_is}
use Rattle.group_flatten.proofs.inner.flat_in.Goals as goal

pub flat_rows-read-requires : goal.flat_rows-read-requires
flat_rows-read-requires c = c.requires

pub returns : goal.returns
returns c = flat_is (length c.args.t.now) c.args.w.now c.args.from.now (handles c.args.g) c.args.n c.args.room (c.flat_rows-read.ensures ∙ ap (λ (l : List ℕ). rows_by c.args.room (step_in c.args.from.now (handles c.args.g)) c.args.n c.args.room 0 1 l) c.clear.ensures) c.finish.ensures
