-- This file defines how the answer of `product` is written into a lent list, for a C caller.
use Rattle.std.specs.Prelude.{ℕ, List, [], Ok, Err}
use Rattle.egg.specs.Answers.{answer_of}
use Rattle.egg.specs.Table.{put_at}
use Rattle.egg.specs.Factor.{verdict_paper}
use Rattle.capi_values.specs.Bridge.{paper_into, Telling, telling}
use Rattle.group_handles.specs.Answers.{Grouped}

-- How many factors the product has; 1 where it is refused.
abbrev pub factors_of : Grouped → ℕ
factors_of (Ok g) = g.count
factors_of (Err r) = 1

-- The verdict's number and places, and after them how many factors the product has.
unfoldable pub grouped_into : Grouped → List ℕ → List ℕ
grouped_into made out = put_at (paper_into (answer_of made) out) 4 (factors_of made)

-- What `product` leaves: its number, and these in `out`. It writes no other list.
abbrev pub grouped : Grouped → List ℕ → Telling
grouped made out = telling (verdict_paper (answer_of made)).number (grouped_into made out) []
