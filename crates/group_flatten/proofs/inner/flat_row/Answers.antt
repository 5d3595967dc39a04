use Rattle.egg.proofs.Refusing.{handed_on}
use Prim.Native.Nat.{ℕ}
use mathlib.Core.Path.{refl, sym, ◌∙◌, ap}
use native.Mathlib.Omega.{arith}
use Rattle.group_handles.specs.Handles.{handles}
use Rattle.group_digits.specs.Digits.{step_in}
use Rattle.group_flatten.specs.Flat.{row_by}
use Rattle.group_flatten.proofs.Flats.{row_refused, row_next, row_stop, row_end}
use Rattle.group_flatten.proofs.inner.flat_row.Goals as goal

pub loop-x-init : goal.loop-x-init
loop-x-init c = (refl, omega arith, ap (λ (k : ℕ). row_by k (step_in c.args.from.now (handles c.args.g)) c.args.n c.args.room c.args.e.0 0 c.args.first c.args.t.now) (omega arith))

pub step_in-requires : goal.step_in-requires
step_in-requires c = c.requires

pub shape_of-t-in_err-y : goal.shape_of-t-in_err-y
shape_of-t-in_err-y c = c.loop-x.invariant.0

pub returns-in_err-y : goal.returns-in_err-y
returns-in_err-y c = rw (handed_on c.from_residual.ensures) (row_refused (step_in c.args.from.now (handles c.args.g)) c.args.n c.args.room c.args.e.0 c.loop-x.x c.loop-x.count c.loop-x.t c.loop-x-test.true c.step_in.ensures c.in_err-y.was ∙ c.loop-x.invariant.2)

pub shape_of-t-in_err-count : goal.shape_of-t-in_err-count
shape_of-t-in_err-count c = c.place.auto.t ∙ c.loop-x.invariant.0

pub returns-in_err-count : goal.returns-in_err-count
returns-in_err-count c = rw (handed_on c.from_residual-in_err-count.ensures) (row_stop (step_in c.args.from.now (handles c.args.g)) c.args.n c.args.room c.args.e.0 c.loop-x.x c.loop-x.count c.loop-x.t c.loop-x-test.true c.step_in.ensures c.in_ok-y.was c.place.ensures c.in_err-count.was ∙ c.loop-x.invariant.2)

pub loop-x-preserved : goal.loop-x-preserved
loop-x-preserved c = (c.place.auto.t ∙ c.loop-x.invariant.0, omega (arith, c.loop-x-test.true), sym (row_next (step_in c.args.from.now (handles c.args.g)) c.args.n c.args.room c.args.e.0 c.loop-x.x c.loop-x.count c.loop-x.t c.loop-x-test.true c.step_in.ensures c.in_ok-y.was c.place.ensures c.in_ok-count.was) ∙ c.loop-x.invariant.2)

pub shape_of-t : goal.shape_of-t
shape_of-t c = c.loop-x.invariant.0

pub returns : goal.returns
returns c = row_end (step_in c.args.from.now (handles c.args.g)) c.args.n c.args.room c.args.e.0 c.loop-x.x c.loop-x.count c.loop-x.t c.loop-x-test.false ∙ c.loop-x.invariant.2
