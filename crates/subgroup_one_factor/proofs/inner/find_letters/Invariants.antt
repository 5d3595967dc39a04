use mathlib.Core.Path.{◌≡◌}
use lib.ListN.{length}
use Rattle.subgroup_one_factor.proofs.LetterLaws.{LettersTo}
use Rattle.subgroup_one_factor.proofs.inner.find_letters.Given as goal

abbrev pub invariant-loop-i : goal.invariant-loop-i
invariant-loop-i l = (length l.letters ≡ length l.initial.letters) × LettersTo (l.s) l.n l.count (l.gens) l.letters l.i
