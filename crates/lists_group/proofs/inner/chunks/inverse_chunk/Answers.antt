-- The list is copied, or a number is no element; then the factors answer.
use lib.ListN.{length}
use Rattle.lists_group.proofs.Chunks.{inverses_right_lem}
use Rattle.lists.proofs.Passes.{cleared}
use Rattle.group_handles.proofs.Admitted.{few_elements}
use Rattle.egg.proofs.Rooms.{false_true}
use native.Mathlib.Omega.{arith}
use Rattle.lists_group.proofs.inner.chunks.inverse_chunk.Goals as goal

pub returns-then-not-copy_below : goal.returns-then-not-copy_below
returns-then-not-copy_below c = λ h. absurd (false_true h)

pub inverses_in_turn-requires : goal.inverses_in_turn-requires
inverses_in_turn-requires c = (
  (c.requires.0.fits, few_elements c.args.g c.requires.0.within),
  record {
    few = c.requires.1.1;
    firsts = omega (arith, c.copy_below.auto.to, c.requires.1.1);
    seconds = omega (arith, c.copy_below.auto.to, c.requires.1.1);
    results = omega (arith, c.clear.auto.s, c.requires.1.0);
    nothing = cleared (length c.args.results.now) c.clear.ensures (omega (arith, c.requires.1.0));
  },
)

pub returns : goal.returns
returns c = λ h. inverses_right_lem c.args.table.now c.args.g c.args.a.now c.requires.0 (c.copy_below.ensures c.if-not-copy_below.false) (c.inverses_in_turn.ensures h)
