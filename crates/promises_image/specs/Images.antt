-- This file defines what an image is, what it is for one to hold a factor, and when the two calls on factors and images undo each other.
use Rattle.std.specs.Prelude.{ℕ, ◌+◌, ◌*◌, ◌≤◌, ◌<◌, ◌≡◌, List, ◌∷◌, ◌++◌, Bool, true, false, length, get_or, drop, ltb}
use Rattle.egg.specs.declared.Factor.{Factor}
use Rattle.egg.specs.Answers.{Verdict, answer_of}
use Rattle.std.specs.Prelude.{Ok, Err}
use Rattle.egg.specs.Factor.{stretch, counted_paper}
use Rattle.build_lending.specs.Lending.{lent_right, Making, making}
use Rattle.build_reading.specs.Reading.{Placed, placed, composed_at}
use Rattle.image_cells.specs.Cells.{halves}
use Rattle.image_check.specs.Short.{verdict_number}
use Rattle.image.specs.Image.{head_length, head_generators, head_elements, bytes_need, image_number}
use Rattle.image.specs.Written.{write_count, written_image}
use Rattle.image.specs.Read.{read_image}
use Rattle.factor_laws.specs.Accepted.{Accepted, factor_step}
use Rattle.factor_laws.specs.Papers.{value_paper}
use Rattle.build_laws.specs.Taken.{Taken}
use Rattle.promises.specs.Leaves.{composed_numbers}

-- Every number is below 256, as in every slice of bytes.
pub record Bytes (l : List ℕ) : Type 0 where
  pub byte : (i : ℕ) → get_or l i 0 < 256

-- The step that an image's successors give.
abbrev pub image_step : List ℕ → ℕ → ℕ → ℕ
image_step l = composed_at (halves (drop 8 l)) (head_generators l)

-- A reading with room N came to its end with fewer than N elements: "fewer than N reached is 16, before 8".
abbrev pub ends_fewer : Placed → ℕ → Bool
ends_fewer (placed (Ok c) t) room = ltb c room
ends_fewer (placed (Err r) t) room = false

-- What a call which makes a factor answers.
abbrev pub made_answer : Making → Verdict
made_answer (making m t w) = answer_of m

-- The number of that: 0 where it is accepted, else the refusal's.
abbrev pub made_number : Making → ℕ
made_number m = verdict_number (made_answer m)

-- The head is right: "Four bytes, big-endian, the length of what follows; version byte 1; n in one byte; element count N in two; then the successors, two
-- bytes each .. Length is 4 + 2nN."
pub record WellFormed (l : List ℕ) : Type 0 where
  pub size : length l ≡ 8 + 2 * head_generators l * head_elements l
  pub said : head_length l ≡ 4 + 2 * head_generators l * head_elements l
  pub version : get_or l 4 0 ≡ 1
  pub few : head_generators l ≤ 8
  pub some : 1 ≤ head_elements l

-- What is accepted: a right head, and successors that are the right steps of some group with N elements under the numbering rule, with no recorded
-- word over 4,096.
pub record GroupImage (l : List ℕ) : Type 1 where
  pub formed : WellFormed l
  pub taken : Taken (image_step l) (head_generators l) (head_elements l) (head_elements l)

-- A call that makes a factor, with the given start, was accepted: the handle has n generators, N elements and room N, and its steps are these.
pub record MadeWith (start n N : ℕ) (step : ℕ → ℕ → ℕ) (m : Making) : Type 0 where
  pub table : List ℕ
  pub work : List ℕ
  pub made : m ≡ making (Ok (record { start = start; room = N; generators = n; elements = N })) table work
  pub accepted : Accepted table (record { start = start; room = N; generators = n; elements = N })
  pub steps : {e g : ℕ} → e < N → g < n → factor_step table (record { start = start; room = N; generators = n; elements = N }) e g ≡ step e g

-- Two stretches hold the same table: "images written and read back are the same table". Every number of the N rows is the same: successors, predecessors,
-- parents, last letters, word lengths and inverses.
pub record SameTable (s s' : List ℕ) (n N : ℕ) : Type 0 where
  pub cells : (i : ℕ) → i < N * (2 * n + 4) → get_or s' i 0 ≡ get_or s i 0

-- A factor f of the table t came back from its image, by a call that reads with the given start: accepted, with as many generators and elements, the same
-- steps and the same table. (The room is N then, for an image tells no room.)
pub record CameBack (t : List ℕ) (f : Factor) (start : ℕ) (m : Making) : Type 0 where
  pub back : MadeWith start f.generators f.elements (factor_step t f) m
  pub same : SameTable (stretch t f) (stretch back.table (record { start = start; room = f.elements; generators = f.generators; elements = f.elements }))
      f.generators f.elements

-- "Images written and read back are the same table": the factor is written to the start of a buffer that is long enough, the rest of which stays; what is
-- written is an image whose check gives 0, and read from it at any start, into buffers that are not short, the factor comes back.
pub record RoundTrip (t : List ℕ) (f : Factor) (out : List ℕ) : Type 0 where
  pub image : List ℕ
  pub counted : counted_paper (write_count t f (length out)) ≡ value_paper (length image)
  pub written : written_image t f out ≡ image ++ drop (length image) out
  pub checked : (size : ℕ) → bytes_need f.generators f.elements ≤ size → image_number image size ≡ 0
  pub read : (table : List ℕ) (start : ℕ) (work : List ℕ) → lent_right (length table) start (length work) f.elements f.generators ≡ true
      → CameBack t f start (read_image image table start work)

-- "Read and written again the same bytes": into a buffer that is long enough, the rest of which stays.
pub record SameBytes (l t : List ℕ) (f : Factor) (out : List ℕ) : Type 0 where
  pub counted : counted_paper (write_count t f (length out)) ≡ value_paper (length l)
  pub written : written_image t f out ≡ l ++ drop (length l) out

-- The arguments of a reading are right, so that its build starts: the head is right, and the buffers are not short.
pub record ImageRight (l table : List ℕ) (start : ℕ) (work : List ℕ) : Type 0 where
  pub formed : WellFormed l
  pub lent : lent_right (length table) start (length work) (head_elements l) (head_generators l) ≡ true

-- The numbers by which a reading may be refused then: 16, for "fewer than N reached is 16", and those of composed rows.
abbrev pub image_numbers : List ℕ
image_numbers = 16 ∷ composed_numbers
