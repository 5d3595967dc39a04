-- The buffer has the joined name up to `at`, and what is left of that is joined from the names that are left.
use Rattle.names_joined.specs.Joined.{listed_names}
use Rattle.names_joined.proofs.Puts.{Joining}
use Rattle.names_joined.proofs.inner.write.Given as goal

abbrev pub invariant-loop-f : goal.invariant-loop-f
invariant-loop-f l = Joining (listed_names l.g) l.initial.out l.f l.at l.out
