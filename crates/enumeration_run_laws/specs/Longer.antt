-- The same run in longer stretches: what "More room never changes an accepted table" (document 01) says of a run.
use Rattle.std.specs.Prelude.{ℕ, ◌-◌, ◌≡◌, List, ◌++◌, length, replicate}
use Rattle.enumeration_wake.specs.Waking.{State, state}
use Rattle.enumeration_run.specs.Run.{Visit, visit, RunResult, outcome, enumerated}
use Rattle.enumeration_run.specs.declared.inner.Ran.TheVariants as ran

-- The list with k zeros behind.
unfoldable pub longer : ℕ → List ℕ → List ℕ
longer k l = l ++ replicate k 0

-- The list l has `len` numbers, and l' is l with k zeros behind.
pub record Long (k len : ℕ) (l l' : List ℕ) : Type 0 where
  pub same : l' ≡ longer k l
  pub wide : length l ≡ len

-- A state with a longer table, by a zeros, and a longer work, by b.
abbrev pub longer_state : ℕ → ℕ → State → State
longer_state a b s = state (longer a s.table) (longer b s.work) s.top

-- The same of what a visit leaves.
abbrev pub longer_visit : ℕ → ℕ → Visit → Visit
longer_visit a b v = visit v.answer (longer a v.table) (longer b v.work)

-- The same of what a run leaves.
abbrev pub longer_outcome : ℕ → ℕ → RunResult → RunResult
longer_outcome a b x = outcome x.answer (longer a x.table) (longer b x.work)

-- A run that is done with N elements gives, with more room and in longer stretches, the same answer and the same numbers; what is behind them is
-- zero.
pub record SameRun (n : ℕ) (o : List ℕ) (room lt lw room' lt' lw' N : ℕ) : Type 0 where
  pub answer : (enumerated n o room' lt' lw').answer ≡ ran.Done N
  pub table : (enumerated n o room' lt' lw').table ≡ (enumerated n o room lt lw).table ++ replicate (lt' - lt) 0
  pub work : (enumerated n o room' lt' lw').work ≡ (enumerated n o room lt lw).work ++ replicate (lw' - lw) 0
