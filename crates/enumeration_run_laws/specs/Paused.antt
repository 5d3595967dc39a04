-- How a run ended: it is done, it is paused, or it was refused.
use Rattle.std.specs.Prelude.{ℕ}
use Rattle.enumeration_run.specs.declared.inner.Ran.{Ran}
use Rattle.enumeration_run.specs.declared.inner.Ran.TheVariants as ran

-- The run has visited every place.
abbrev pub IsDone : Ran → Type 0
IsDone (ran.Done c) = Unit {0}
IsDone (ran.Paused at) = ⊥
IsDone (ran.Refused r) = ⊥

-- Its allowance of places was spent before that, so that it would have to go on.
abbrev pub IsPaused : Ran → Type 0
IsPaused (ran.Done c) = ⊥
IsPaused (ran.Paused at) = Unit {0}
IsPaused (ran.Refused r) = ⊥

-- How many elements a run that is done has found.
abbrev pub done_of : Ran → ℕ
done_of (ran.Done c) = c
done_of (ran.Paused at) = 0
done_of (ran.Refused r) = 0
