-- This file defines the check's verdict, its number with the three places, and what an image's head alone tells of the check.
use Rattle.std.specs.Prelude.{ℕ, List, ◌&&◌, drop, replicate, ltb, eqb}
use Rattle.egg.specs.Answers.{Counted, Verdict}
use Rattle.std.specs.Prelude.{Ok, Err}
use Rattle.egg.specs.Answers.{numbered}
use Rattle.egg.specs.Scan.{refused_of}
use Rattle.egg.specs.Table.{pick}
use Rattle.build_lending.specs.Lending.{table_need, work_need}
use Rattle.image_cells.specs.Cells.{halves}
use Rattle.image_check.specs.Short.{ruled}
use Rattle.image.specs.Image.{head_generators, head_elements, head_number, head_place, bytes_need}

-- The check's verdict, where `size` bytes of work are lent: `image_number` with the places, "Each carries three places, zero where none is listed."
unfoldable pub image_verdict : List ℕ → ℕ → Verdict
image_verdict l size =
    pick (eqb (head_number l) 0)
    (pick (ltb size (bytes_need (head_generators l) (head_elements l))) (refused_of 4 0 0 0)
    (ruled (table_need (head_generators l) (head_elements l)) (replicate (work_need (head_generators l) (head_elements l)) 0) (halves (drop 8 l)) (head_generators l)
    (head_elements l)))
    (refused_of (head_number l) (head_place l) 0 0)

-- How many bytes of work the check needs, or the refusal that no work which is long enough can change: the head's own, and 16 where there is no
-- generator and more than one element, for without a generator the identity alone is reached.
unfoldable pub image_need : List ℕ → Counted
image_need l =
    pick (eqb (head_number l) 0)
    (pick (eqb (head_generators l) 0 && ltb 1 (head_elements l)) (Err (numbered 16 0 0 0)) (Ok (bytes_need (head_generators l) (head_elements l))))
    (Err (numbered (head_number l) (head_place l) 0 0))
