-- What is left to look at from here decides as the whole word does: each turn takes one letter off.
use mathlib.Core.Path.{◌≡◌}
use lib.ListN.{drop}
use Rattle.image_walk.specs.Walked.{letters_below}
use Rattle.image_walk.proofs.inner.letters_below.Given as goal

abbrev pub invariant-loop-g : goal.invariant-loop-g
invariant-loop-g l = letters_below l.n (drop l.g-index l.word) ≡ letters_below l.n l.word
