-- The loop keeps, for each lane, that what is left of its cell leads as far as the whole of it does.
use Prim.Native.Nat.{◌-◌}
use Rattle.lists_walks.specs.Letters.{EachOf}
use Rattle.lists_walks.proofs.Letters.{Spelling}
use Rattle.lists_walks.proofs.inner.five_back.Given as goal

abbrev pub invariant-loop : goal.invariant-loop
invariant-loop l = EachOf (λ of. Spelling l.s l.n l.count 5 (of l.initial.y) (of l.initial.c) (5 - l.counter) (of l.y) (of l.c))
