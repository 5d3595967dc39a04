-- What is left to store, in the table as it is, gives what all gives.
use mathlib.Core.Path.{◌≡◌}
use Rattle.build_word_cells.specs.Hops.{with_hops}
use Rattle.build_word_cells.proofs.inner.fill_hops.Given as goal

abbrev pub invariant-loop-e : goal.invariant-loop-e
invariant-loop-e l = with_hops l.e l.t l.n ≡ with_hops l.initial.e l.initial.t l.n
