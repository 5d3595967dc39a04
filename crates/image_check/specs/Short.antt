-- This file defines the checks that are made over lent bytes after a reading that ended: those of 8 to 12 that such a reading has not settled. The
-- successors are there and in range by then, the words spell their elements, and each element has n arrivals where no predecessor is missing, so
-- these are not tested again.
use Rattle.std.specs.Prelude.{ℕ, ◌≡◌, List, length, replicate, ltb}
use Rattle.egg.specs.Answers.{Verdict}
use Rattle.egg.specs.Refusals.{refusal_paper}
use Rattle.std.specs.Prelude.{Ok, Err}
use Rattle.egg.specs.Table.{pick}
use Rattle.egg.specs.Scan.{refused_of}
use Rattle.egg.specs.Factor.{verdict_paper}
use Rattle.build_checks.specs.Checks.{missing, wrong, verdict_of, check_group}
use Rattle.build_checks_inverses.specs.Inverses.{fill_inverses, inverses_right}
use Rattle.build_checks_group.specs.Lefts.{identity_row, Lefts, left, left_verdict, then_left, lefts}
use Rattle.build_reading.specs.Reading.{Placed, placed, read_all, composed_at}

-- The checks on the table alone, and the table with its inverses written. Refuses in this order: 8 for a missing predecessor, 9 at a place, 10, 11.
unfoldable pub short_table : List ℕ → ℕ → ℕ → Lefts
short_table t n count =
    then_left (missing t n count n) t
    (then_left (wrong t n count) t
    (then_left (inverses_right (fill_inverses count t n 0) n count) (fill_inverses count t n 0)
    (left (identity_row (fill_inverses count t n 0) n) (fill_inverses count t n 0))))

-- The check of 12, on a table that has passed the others.
abbrev pub short_rest : Lefts → List ℕ → ℕ → ℕ → Verdict
short_rest (left (Ok _) t) w n count = left_verdict (lefts n t n count w 0)
short_rest (left (Err r) t) w n count = Err r

-- All of these checks, with the work w.
unfoldable pub short : List ℕ → List ℕ → ℕ → ℕ → Verdict
short t w n count = short_rest (short_table t n count) w n count

-- There is some work of so many cells for which P holds. When 12 is tested the work holds hints of inverses; on a table that a reading left 12 does
-- not depend on what it holds, so the contracts leave that open.
pub record SomeWork (long : ℕ) (P : List ℕ → Type 0) : Type 0 where
  pub work : List ℕ
  pub as_long : length work ≡ long
  pub holds : P work

-- Document 01's number of a verdict: 0 where nothing is refused.
abbrev pub verdict_number : Verdict → ℕ
verdict_number v = (verdict_paper v).number

-- The verdict on what a reading with this room gave: its own refusal, or 16 for fewer elements than the room, which has no places, or what the checks
-- give then.
abbrev pub verdict_by : (List ℕ → Verdict) → Placed → ℕ → Verdict
verdict_by check (placed (Err r) t) room = Err r
verdict_by check (placed (Ok c) t) room = pick (ltb c room) (refused_of 16 0 0 0) (check t)

-- The number of that verdict.
abbrev pub number_by : (List ℕ → Verdict) → Placed → ℕ → ℕ
number_by check (placed (Err r) t) room = (refusal_paper r).number
number_by check (placed (Ok c) t) room = pick (ltb c room) 16 (verdict_number (check t))

-- The verdict by the short checks, after a reading of the rows into a table of `size` cells.
unfoldable pub judged : (size : ℕ) (w rows : List ℕ) (n room : ℕ) → Verdict
judged size w rows n room = verdict_by (λ t. short t w n room) (read_all (composed_at rows n) n room (replicate size 0)) room

-- The verdict that reading into 32-bit buffers and all of 8 to 12 give: "reading with room N; fewer than N reached is 16, before 8".
unfoldable pub ruled : (size : ℕ) (w rows : List ℕ) (n room : ℕ) → Verdict
ruled size w rows n room = verdict_by (λ t. verdict_of (check_group t w n room)) (read_all (composed_at rows n) n room (replicate size 0)) room

-- The number of the verdict that reading into 32-bit buffers and all of 8 to 12 give.
unfoldable pub built : (size : ℕ) (w rows : List ℕ) (n room : ℕ) → ℕ
built size w rows n room = number_by (λ t. verdict_of (check_group t w n room)) (read_all (composed_at rows n) n room (replicate size 0)) room
