-- The end of a build: the checks 8 to 12, and what the lent stretches hold then. Document 01: "Once it has started, any refusal .. leaves the
-- needed stretch of table and work .. zero. After acceptance, rows .. beyond the last element and the whole needed work stretch are zero."
use Rattle.std.specs.Prelude.{ℕ, List, length, replicate}
use Rattle.egg.specs.Answers.{Counted}
use Rattle.std.specs.Prelude.{Ok, Err}
use Rattle.build_reading.specs.Reading.{Placed, placed}
use Rattle.build_checks.specs.Checks.{Checked, check_group}
use Rattle.build_word_cells.specs.Hops.{with_hops}

-- As many zeros as the list has numbers.
abbrev pub zeroed : List ℕ → List ℕ
zeroed l = replicate (length l) 0

-- What a build answers, the element count or a refusal, and what both stretches hold.
pub data Built : Type 0 where
  built : Counted → List ℕ → List ℕ → Built

-- What a build comes to by its checks: after a refusal both stretches are zero; after acceptance the work is, and the table has its words by five
-- letters in a cell.
abbrev pub settled_by : ℕ → ℕ → Checked → Built
settled_by n count (Checked.checked (Ok _) t w) = built (Ok count) (with_hops count t n) (zeroed w)
settled_by n count (Checked.checked (Err r) t w) = built (Err r) (zeroed t) (zeroed w)

-- What a build comes to from what its reading or enumerating left: a refusal stands, and a count goes on to the checks.
unfoldable pub finished : Counted → ℕ → List ℕ → List ℕ → Built
finished (Ok count) n t w = settled_by n count (check_group t w n count)
finished (Err r) n t w = built (Err r) (zeroed t) (zeroed w)

-- The same from what a reading left.
abbrev pub finished_placed : Placed → ℕ → List ℕ → Built
finished_placed (placed c t) n w = finished c n t w
