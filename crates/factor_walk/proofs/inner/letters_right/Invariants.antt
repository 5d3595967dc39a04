-- A scan, letter by letter.
use lib.ListN.{length}
use Rattle.egg.proofs.Scans.{Scanning}
use Rattle.factor_walk.specs.Walked.{letter_right, letters_right}
use Rattle.factor_walk.proofs.inner.letters_right.Given as goal

abbrev pub invariant-loop-i : goal.invariant-loop-i
invariant-loop-i l = Scanning (length l.word) (letter_right l.n l.word) l.i (letters_right l.n l.word)
