-- A letter that is a generator, and a stored step back that is in range; 0 is answered where nothing is said.
use native.Mathlib.Omega.{arith}
use Prim.Native.Nat.{◌-◌, ◌%◌}
use Rattle.factor_word_walks.proofs.Walks.{back_element}
use Rattle.lists_walks.proofs.inner.letter_back.Goals as goal

pub returns-then-n-letter : goal.returns-then-n-letter
returns-then-n-letter c = λ h. absurd (omega arith)

pub returns-then-count-x : goal.returns-then-count-x
returns-then-count-x c = λ h. absurd (omega arith)

pub returns : goal.returns
returns c = λ h. record { stored = record { some = h; small = c.if-count-x.false }; letter = c.if-n-letter.false; back = back_element c.args.s.now c.args.n c.args.count (c.args.y - 1) (c.args.c % 8) c.stored_step-x.ensures (λ z. omega arith) c.if-count-x.false }
