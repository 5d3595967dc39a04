-- The invariant is `Inverting`: what has been passed has its inverse added, and what is left of it.
use Rattle.lists_group.proofs.Passes.{Inverting}
use Rattle.lists_group.proofs.inner.chunks.invert.Given as goal

abbrev pub invariant-loop-i : goal.invariant-loop-i
invariant-loop-i l = Inverting l.s l.generators l.n l.stride l.initial.rest l.initial.sums l.i l.rest l.sums
