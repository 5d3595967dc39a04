-- The invariant: whatever writes the rest of the word from here on has written the whole.
use Prim.Native.Nat.{◌≤◌}
use lib.ListN.{length, drop}
use Rattle.listing_lines.proofs.Laws.{Rest}
use Rattle.listing_lines.proofs.inner.write_word.Given as goal

abbrev pub invariant-loop-i : goal.invariant-loop-i
invariant-loop-i l = (l.i ≤ length l.word) × Rest l.initial.out l.at l.word l.out l.next (drop l.i l.word)
