-- What is stored is an element's, and what the letters that are left come to, all of them come to; 0 is answered where nothing is said.
use Prim.Native.Nat.{ℕ, ◌-◌, ◌≤◌, ◌<◌}
use mathlib.Core.Path.{◌≡◌}
use mathlib.Core.Bool.{true}
use Rattle.egg.specs.Answers.{Reached}
use Rattle.factor_word_letters.specs.Spell.{cell_by}
use Rattle.factor_word_walks.specs.Letters.{LettersBack}
use Rattle.factor_quick_walks.proofs.inner.retrace_letters.Given as goal

abbrev pub invariant-loop-left : goal.invariant-loop-left
invariant-loop-left l = (0 < l.y) × ((l.y ≤ l.count) × (((r : Reached) → LettersBack l.s l.n l.count (l.y - 1) l.c l.left r → LettersBack l.s l.n l.count (l.initial.y - 1) l.initial.c l.initial.left r) × ((m : ℕ) → cell_by l.left l.n m l.c ≡ true → cell_by l.initial.left l.n m l.initial.c ≡ true)))

abbrev pub decreases-loop-left : goal.decreases-loop-left
decreases-loop-left l = l.left
