-- Storing what is left of the letters gives what storing all gives.
use Prim.Native.Nat.{◌-◌, ◌≤◌}
use mathlib.Core.Path.{◌≡◌}
use lib.ListN.{length}
use Rattle.factor_word_letters.specs.Letters.{letters_put}
use Rattle.factor_word_letters.proofs.inner.put_letters.Given as goal

abbrev pub invariant-loop : goal.invariant-loop
invariant-loop l = (length l.out ≡ length l.initial.out) × (l.word ≤ l.initial.word) × (letters_put l.word (5 - l.counter) l.rest l.start l.offset l.out ≡ letters_put l.initial.word 5 l.initial.rest l.start l.offset l.initial.out)
