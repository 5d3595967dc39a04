-- This file defines how a factor is read back from an image. Document 01: "Checks: total size at least 8, length, version (16), n (1), N not 0 and
-- length formula (16), buffers (4), then reading with room N; fewer than N reached is 16, before 8."
use Rattle.std.specs.Prelude.{ℕ, List, length, drop, take, eqb}
use Rattle.egg.specs.Table.{pick}
use Rattle.build_lending.specs.Lending.{table_need, work_need, lent_right, refused_made, Making, making, lent_back}
use Rattle.image_cells.specs.Cells.{halves}
use Rattle.image.specs.Image.{head_generators, head_elements, head_number, head_place}
use Rattle.image_reading.specs.Read.{image_in}

-- What `read` answers and leaves in its buffers. Refuses, with these as they were, the head's 16 or 1, then 4; else builds with room N.
unfoldable pub read_image : List ℕ → List ℕ → ℕ → List ℕ → Making
read_image l table start work =
    pick (eqb (head_number l) 0)
    (pick (lent_right (length table) start (length work) (head_elements l) (head_generators l))
    (lent_back table start work (head_generators l) (head_elements l)
    (image_in (table_need (head_generators l) (head_elements l)) (take (work_need (head_generators l) (head_elements l)) work) (halves (drop 8 l)) (head_generators l) (head_elements l)))
    (making (refused_made 4 0) table work))
    (making (refused_made (head_number l) (head_place l)) table work)
