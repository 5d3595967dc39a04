use mathlib.Core.Path.{refl, ◌∙◌}
use native.Mathlib.Omega.{arith}
use native.Mathlib.Nat.{sub-zero}
use Rattle.egg.specs.Table.{step_of}
use Rattle.image_writing.proofs.WriteLaws.{rows_next, rows_end}
use Rattle.image_writing.proofs.inner.put_rows.Goals as goal

pub loop-e-init : goal.loop-e-init
loop-e-init c = (refl, rw sub-zero)

pub put_row-requires : goal.put_row-requires
put_row-requires c = omega arith

pub loop-e-preserved : goal.loop-e-preserved
loop-e-preserved c = (c.put_row.auto.out ∙ c.loop-e.invariant.0, rows_next (step_of c.args.s.now c.args.n) c.args.n c.loop-e.e c.loop-e.out c.args.count c.loop-e-test.true c.put_row.ensures ∙ c.loop-e.invariant.1)

pub shape_of-out : goal.shape_of-out
shape_of-out c = c.loop-e.invariant.0

pub returns : goal.returns
returns c = rows_end (step_of c.args.s.now c.args.n) c.args.n c.loop-e.e c.loop-e.out c.args.count c.loop-e-test.false ∙ c.loop-e.invariant.1
