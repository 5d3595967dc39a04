-- What the answers of calls mean in document 01's numbers; the handle of a factor and its stretch of the table buffer; and the answer of one step.
use Rattle.std.specs.Prelude.{ℕ, ◌+◌, ◌*◌, ◌-◌, List, Bool, ◌&&◌, length, get_or, take, drop, ltb, leb, eqb, Ok, Err}
use Rattle.egg.specs.declared.GroupElementId.{GroupElementId}
use Rattle.egg.specs.declared.GeneratorId.{GeneratorId}
use Rattle.egg.specs.declared.Factor.{Factor}
use Rattle.egg.specs.Answers.{Verdict, Reached, Counted}
pub use Rattle.egg.specs.Refusals.{Paper, refusal_paper, numbered}
use Rattle.egg.specs.Table.{pick, start_of}

-- The paper's values of a check's answer.
abbrev pub verdict_paper : Verdict → Paper
verdict_paper (Ok _) = record { number = 0; a = 0; b = 0; c = 0 }
verdict_paper (Err r) = refusal_paper r

-- The paper's values of an answer that is an element.
abbrev pub reached_paper : Reached → Paper
reached_paper (Ok e) = record { number = 0; a = e.0; b = 0; c = 0 }
reached_paper (Err r) = refusal_paper r

-- The paper's values of an answer that is a count.
abbrev pub counted_paper : Counted → Paper
counted_paper (Ok k) = record { number = 0; a = k; b = 0; c = 0 }
counted_paper (Err r) = refusal_paper r

-- A refused question about elements, with the refusal's number and first place.
abbrev pub refused_reach : ℕ → ℕ → Reached
refused_reach k a = Err (numbered k a 0 0)

-- True where a factor has room in a buffer of `len` numbers from `start` on, within document 01's limits: at most 8 generators, a room of 1 to
-- 65,535, and as many numbers as it needs, "exactly R(2n+4) entries of table".
unfoldable pub has_room : ℕ → ℕ → ℕ → ℕ → Bool
has_room len start room n = leb n 8 && (leb 1 room && (leb room 65535 && leb (start + room * (2 * n + 4)) len))

-- True where the handle fits a buffer of `len` numbers: it has at least the identity, no more elements than room, and its stretch lies within the
-- buffer. Elsewhere 17 is due, "the handle doesn't fit its buffer".
unfoldable pub fits_in : ℕ → Factor → Bool
fits_in len f = leb 1 f.elements && (leb f.elements f.room && has_room len f.start f.room f.generators)

-- The stretch of the table buffer that belongs to a factor.
unfoldable pub stretch : List ℕ → Factor → List ℕ
stretch t f = take (f.room * (2 * f.generators + 4)) (drop f.start t)

-- What stands for the step from e by g: one more than the element's number, or 0 where none is stored.
abbrev pub stored_step : List ℕ → Factor → ℕ → ℕ → ℕ
stored_step t f e g = get_or (stretch t f) (start_of f.generators e + g) 0

-- The answer for a stored step: 17, "a number read from it is out of range", where it is missing or beyond the element count, else the element.
unfoldable pub read_step : (s : List ℕ) (n count e g : ℕ) → Reached
read_step s n count e g =
    pick (eqb (get_or s (start_of n e + g) 0) 0) (refused_reach 17 0)
    (pick (ltb count (get_or s (start_of n e + g) 0)) (refused_reach 17 0) (Ok (record { 0 = get_or s (start_of n e + g) 0 - 1 })))

-- What `step` answers. "Calls on handles check 17 in the handle, then 14, .. then 17 in what they read." The place of 14 is the argument's "position
-- among these from 0": the element has 0, the generator 1.
unfoldable pub step_answer : List ℕ → Factor → GroupElementId → GeneratorId → Reached
step_answer t f e g =
    pick (fits_in (length t) f)
    (pick (leb f.elements e.0) (refused_reach 14 0)
    (pick (leb f.generators g.0) (refused_reach 14 1) (read_step (stretch t f) f.generators f.elements e.0 g.0)))
    (refused_reach 17 0)
