-- Writing the letters left gives what writing all gives.
use mathlib.Core.Path.{◌≡◌}
use lib.ListN.{length}
use Rattle.factor_word_letters.specs.Spell.{spell_from}
use Rattle.factor_word_letters.proofs.inner.spell_from.Given as goal

abbrev pub invariant-loop-left : goal.invariant-loop-left
invariant-loop-left l = (length l.out ≡ length l.initial.out) × (spell_from l.left l.s l.n l.at l.start l.offset l.out ≡ spell_from l.initial.left l.s l.n l.initial.at l.start l.offset l.initial.out)

abbrev pub decreases-loop-left : goal.decreases-loop-left
decreases-loop-left l = l.left
