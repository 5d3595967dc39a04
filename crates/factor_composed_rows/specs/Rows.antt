-- The build of a factor from rows of composed numbers in a lent list, in the stretches that it is lent.
use Rattle.std.specs.Prelude.{ℕ, List, replicate}
use Rattle.build_lending.specs.Finish.{Built, finished_placed}
use Rattle.build_reading.specs.Reading.{read_all, composed_at}

-- The table's stretch of `size` numbers is zeroed and read into; then come the checks. Document 01, module 3: "at (e,g), in order, a number below the
-- count is set, the count itself is a new element, more is 7."
unfoldable pub composed_in : (size : ℕ) (w rows : List ℕ) (n room : ℕ) → Built
composed_in size w rows n room = finished_placed (read_all (composed_at rows n) n room (replicate size 0)) n w
