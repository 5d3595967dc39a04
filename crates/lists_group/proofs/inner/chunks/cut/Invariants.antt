-- The invariant is `Cutting`: the digits and the rests of what has been passed.
use Rattle.lists_group.proofs.Passes.{Cutting}
use Rattle.lists_group.proofs.inner.chunks.cut.Given as goal

abbrev pub invariant-loop-i : goal.invariant-loop-i
invariant-loop-i l = Cutting l.n l.initial.rest l.initial.digits l.i l.rest l.digits
