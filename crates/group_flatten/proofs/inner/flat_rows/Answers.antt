use Rattle.egg.proofs.Refusing.{handed_on}
use Prim.Native.Nat.{ℕ}
use lib.ListN.{length}
use mathlib.Core.Path.{refl, sym, ◌∙◌, ap}
use native.Mathlib.Omega.{arith}
use Rattle.group_handles.specs.Handles.{handles}
use Rattle.group_handles.proofs.Lists.{positive}
use Rattle.group_digits.specs.Digits.{step_in}
use Rattle.group_flatten.specs.Flat.{rows_by}
use Rattle.group_digits.proofs.Walks.{steps_below}
use Rattle.group_flatten.proofs.Flats.{rows_done, rows_next, rows_stop, rows_end, row_counted}
use Rattle.group_flatten.proofs.inner.flat_rows.Goals as goal

pub loop-e-init : goal.loop-e-init
loop-e-init c = (refl, omega arith, positive (length c.args.from.now) (handles c.args.g) c.requires.0, ap (λ (k : ℕ). rows_by k (step_in c.args.from.now (handles c.args.g)) c.args.n c.args.room 0 1 c.args.t.now) (omega arith))

pub shape_of-t-then-count-e : goal.shape_of-t-then-count-e
shape_of-t-then-count-e c = c.loop-e.invariant.0

pub returns-then-count-e : goal.returns-then-count-e
returns-then-count-e c = rows_done (step_in c.args.from.now (handles c.args.g)) c.args.n c.args.room c.loop-e.e c.loop-e.count c.loop-e.t c.loop-e-test.true c.if-count-e.true ∙ c.loop-e.invariant.3

pub flat_row-requires : goal.flat_row-requires
flat_row-requires c = (c.requires.0, (c.requires.1, omega (arith, c.if-count-e.false, c.loop-e.invariant.2)))

pub shape_of-t-in_err-count : goal.shape_of-t-in_err-count
shape_of-t-in_err-count c = c.flat_row.auto.t ∙ c.loop-e.invariant.0

pub returns-in_err-count : goal.returns-in_err-count
returns-in_err-count c = rw (handed_on c.from_residual.ensures) (rows_stop (step_in c.args.from.now (handles c.args.g)) c.args.n c.args.room c.loop-e.e c.loop-e.count c.loop-e.t c.loop-e-test.true c.if-count-e.false c.flat_row.ensures c.in_err-count.was ∙ c.loop-e.invariant.3)

pub loop-e-preserved : goal.loop-e-preserved
loop-e-preserved c = (c.flat_row.auto.t ∙ c.loop-e.invariant.0, omega (arith, c.loop-e-test.true), row_counted (step_in c.args.from.now (handles c.args.g)) c.args.n c.args.room c.loop-e.e c.loop-e.count c.loop-e.t (λ x. steps_below c.args.from.now (handles c.args.g) c.loop-e.e x (omega (arith, c.if-count-e.false, c.loop-e.invariant.2))) c.loop-e.invariant.2 c.flat_row.ensures c.in_ok-count.was, sym (rows_next (step_in c.args.from.now (handles c.args.g)) c.args.n c.args.room c.loop-e.e c.loop-e.count c.loop-e.t c.loop-e-test.true c.if-count-e.false c.flat_row.ensures c.in_ok-count.was) ∙ c.loop-e.invariant.3)

pub shape_of-t : goal.shape_of-t
shape_of-t c = c.loop-e.invariant.0

pub returns : goal.returns
returns c = rows_end (step_in c.args.from.now (handles c.args.g)) c.args.n c.args.room c.loop-e.e c.loop-e.count c.loop-e.t c.loop-e-test.false ∙ c.loop-e.invariant.3
