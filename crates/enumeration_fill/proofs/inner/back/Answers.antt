use Rattle.std.proofs.Common.{◌+◌, ◌-◌, ap, arith}
use Rattle.egg.specs.declared.GeneratorId.{GeneratorId}
use Rattle.enumeration_fill.specs.declared.inner.Walked.{Walked}
use Rattle.enumeration_fill.proofs.Walks.{walk_left, back_met, back_walk}
use Rattle.enumeration_fill.proofs.inner.back.Goals as goal

pub returns-then-row : goal.returns-then-row
returns-then-row c = back_met c.args.t.now c.args.n (c.args.row.right - c.args.row.left) c.args.row (omega arith)

pub overflow_add-result : goal.overflow_add-result
overflow_add-result c = omega (arith, ap (λ (w : Walked). w.left) c.walk-end.ensures, walk_left c.args.t.now c.args.n (c.args.row.right - c.args.row.left) c.args.row.to.0 (c.args.n + c.generator-due.result.0) (c.args.n + c.beside-next.result.0))

pub returns : goal.returns
returns c = rw c.walk-end.ensures (back_walk c.args.t.now c.args.n (c.args.row.right - c.args.row.left) c.args.row.pair c.args.row.left c.args.row.right (c.args.n + c.generator-due.result.0) (c.args.n + c.beside-next.result.0) c.args.row.from c.args.row.to (omega arith) (ap (λ (g : GeneratorId). c.args.n + g.0) c.generator-due.ensures) (ap (λ (g : GeneratorId). c.args.n + g.0) c.beside-next.ensures))
