-- This file defines a stored image and the answer of its check. Document 01: "Four bytes, big-endian, the length of what follows; version byte 1; n
-- in one byte; element count N in two; then the successors, two bytes each, by element and then generator. Length is 4 + 2nN."
use Rattle.std.specs.Prelude.{ℕ, ◌+◌, ◌*◌, ◌<◌, ◌≡◌, List, ◌++◌, length, get_or, drop, replicate, ltb, eqb}
use Rattle.egg.specs.Answers.{Verdict, fine}
use Rattle.egg.specs.Scan.{refused_of}
use Rattle.egg.specs.Table.{pick}
use Rattle.build_lending.specs.Lending.{table_need, work_need}
use Rattle.image_cells.specs.Cells.{spell2, spell4, halves}
use Rattle.image_check.specs.Short.{built}

-- The length of what follows, as the head says it in its first four bytes.
abbrev pub head_length : List ℕ → ℕ
head_length l = spell4 (get_or l 3 0) (get_or l 2 0) (get_or l 1 0) (get_or l 0 0)

-- How many generators the head says: n.
abbrev pub head_generators : List ℕ → ℕ
head_generators l = get_or l 5 0

-- How many elements the head says: N.
abbrev pub head_elements : List ℕ → ℕ
head_elements l = spell2 (get_or l 6 0) (get_or l 7 0)

-- The number of the first refusal that the head gives, and 0 where it gives none. "Checks: total size at least 8, length, version (16), n (1), N not
-- 0 and length formula (16)".
unfoldable pub head_number : List ℕ → ℕ
head_number l =
    pick (ltb (length l) 8) 16
    (pick (eqb (head_length l + 4) (length l))
    (pick (eqb (get_or l 4 0) 1)
    (pick (ltb 8 (head_generators l)) 1
    (pick (eqb (head_elements l) 0) 16 (pick (eqb (head_length l) (4 + 2 * head_generators l * head_elements l)) 0 16)))
    16)
    16)

-- The place of a bad head's refusal: for 1, "more than 8 generators", it is "the count"; for 16 there is none.
abbrev pub head_place : List ℕ → ℕ
head_place l = pick (eqb (head_number l) 1) (head_generators l) 0

-- What the check of the head answers: the refusal with that number and place, where there is one.
abbrev pub head_answer : List ℕ → Verdict
head_answer l = pick (eqb (head_number l) 0) fine (refused_of (head_number l) (head_place l) 0 0)

-- How many bytes of work the check needs: "lent byte work of N(32n²+100) bytes".
abbrev pub bytes_need : ℕ → ℕ → ℕ
bytes_need n count = count * (32 * n * n + 100)

-- The number that the check answers, where `size` bytes of work are lent. The head's refusal comes first, then 4, then what reading into buffers with
-- room N gives: its own refusal, 16 where fewer than N elements are reached, then 8 to 12; 0 where the image is accepted. (The work of the 32-bit
-- build is zeros here; the number is the same whatever it holds.)
unfoldable pub image_number : List ℕ → ℕ → ℕ
image_number l size =
    pick (eqb (head_number l) 0)
    (pick (ltb size (bytes_need (head_generators l) (head_elements l))) 4
    (built (table_need (head_generators l) (head_elements l)) (replicate (work_need (head_generators l) (head_elements l)) 0) (halves (drop 8 l)) (head_generators l)
    (head_elements l)))
    (head_number l)

-- What the work holds afterwards: "untouched after a bad head or 4, else that many bytes are zero afterwards".
unfoldable pub image_work : List ℕ → List ℕ → List ℕ
image_work l w =
    pick (eqb (head_number l) 0)
    (pick (ltb (length w) (bytes_need (head_generators l) (head_elements l))) w
    (replicate (bytes_need (head_generators l) (head_elements l)) 0 ++ drop (bytes_need (head_generators l) (head_elements l)) w))
    w

-- r is the number that the head says, and it is below a limit that its bytes set.
pub record ReadBelow (r is limit : ℕ) : Type 0 where
  pub at : r ≡ is
  pub small : r < limit
