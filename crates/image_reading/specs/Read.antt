-- This file defines the build from an image's rows. Document 01: "then reading with room N; fewer than N reached is 16, before 8."
use Rattle.std.specs.Prelude.{ℕ, List, replicate, ltb}
use Rattle.egg.specs.Answers.{Counted}
use Rattle.std.specs.Prelude.{Ok, Err}
use Rattle.egg.specs.Table.{pick}
use Rattle.egg.specs.Answers.{numbered}
use Rattle.build_lending.specs.Finish.{Built, finished_placed}
use Rattle.build_reading.specs.Reading.{Placed, placed, read_all, composed_at}

-- Refuses with 16 a reading that reached fewer elements than the room.
abbrev pub reached_all : ℕ → Counted → Counted
reached_all room (Ok c) = pick (ltb c room) (Err (numbered 16 0 0 0)) (Ok c)
reached_all room (Err r) = Err r

-- The same for a reading with the table that it left.
abbrev pub all_placed : ℕ → Placed → Placed
all_placed room (placed c t) = placed (reached_all room c) t

-- The whole build in its own stretches: the table's starts as zeros and is read into; then comes 16, then the checks 8 to 12.
unfoldable pub image_in : (size : ℕ) (w rows : List ℕ) (n room : ℕ) → Built
image_in size w rows n room = finished_placed (all_placed room (read_all (composed_at rows n) n room (replicate size 0))) n w
