-- The first shift that leaves nothing is the number of bits; 32 always leave nothing.
use Prim.Native.Nat.{◌≤◌}
use Rattle.lists_powers.proofs.inner.bits.Given as goal

abbrev pub invariant-loop-j : goal.invariant-loop-j
invariant-loop-j l = l.j ≤ 32
