-- The length so far and the length of what is left give the whole.
use Rattle.names_joined.specs.Joined.{listed_names}
use Rattle.names_joined.proofs.Sums.{Adding}
use Rattle.names_joined.proofs.inner.joined_length.Given as goal

abbrev pub invariant-loop-f : goal.invariant-loop-f
invariant-loop-f l = Adding (listed_names l.g) l.f l.length
