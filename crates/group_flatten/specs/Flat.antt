-- This file defines `flatten`: a product is read into one factor by its own steps. Document 01: "`flatten` keeps product numbers, so S3 by Z2 is 7 at
-- (0,2) with 6, where the Rust panics; one factor or none is copied by the same reading, the empty product giving the one_element table."
use Rattle.std.specs.Prelude.{ℕ, zero, suc, ◌+◌, List, length, take, replicate, ltb}
use Rattle.egg.specs.declared.Factor.{Factor}
use Rattle.egg.specs.Answers.{Reached, Verdict}
use Rattle.std.specs.Prelude.{Ok, Err}
use Rattle.egg.specs.Table.{pick}
use Rattle.build_lending.specs.Finish.{Built, finished_placed}
use Rattle.build_lending.specs.Lending.{table_need, work_need, lent_right, refused_made, Making, making, lent_back}
use Rattle.build_reading.specs.Reading.{Placed, placed, then_placed, read_place}
use Rattle.group_handles.specs.declared.Group.{Group}
use Rattle.group_handles.specs.Handles.{handles, generators_of, admits}
use Rattle.group_digits.specs.Digits.{step_in}

-- Reads the place (e, g) with the number that the source of the reading gave for it. Where the source refused, that refusal ends the reading.
abbrev pub place_by : List ℕ → ℕ → ℕ → ℕ → ℕ → ℕ → Reached → Placed
place_by t n room count e g (Ok v) = read_place t n room count e g v.0
place_by t n room count e g (Err r) = placed (Err r) t

-- Reads k places of row e, from generator g on. `src` is the source: the number at each place. `count` is how many elements are known so far.
unfoldable pub row_by : (k : ℕ) (src : ℕ → ℕ → Reached) (n room e g count : ℕ) (t : List ℕ) → Placed
row_by zero src n room e g count t = placed (Ok count) t
row_by (suc k) src n room e g count t =
    then_placed (place_by t n room count e g (src e g)) (λ c t'. row_by k src n room e (g + 1) c t')

-- Reads the rows from e on, as long as there is an element e; k of them at most.
unfoldable pub rows_by : (k : ℕ) (src : ℕ → ℕ → Reached) (n room e count : ℕ) (t : List ℕ) → Placed
rows_by zero src n room e count t = placed (Ok count) t
rows_by (suc k) src n room e count t =
    pick (ltb e count) (then_placed (row_by n src n room e 0 count t) (λ c t'. rows_by k src n room (e + 1) c t')) (placed (Ok count) t)

-- The whole build in its own stretches: the table's starts as zeros, the reading fills it, and the checks follow.
unfoldable pub flat_in : (size : ℕ) (w from : List ℕ) (hs : List Factor) (n room : ℕ) → Built
flat_in size w from hs n room = finished_placed (rows_by room (step_in from hs) n room 0 1 (replicate size 0)) n w

-- A call that is refused before its build starts makes no factor and leaves the buffers as they were.
abbrev pub if_making : Verdict → List ℕ → List ℕ → Making → Making
if_making (Ok _) table work m = m
if_making (Err r) table work m = making (Err r) table work

-- Refuses, with every buffer as it was, in this order: 1 for more than 8 generators together, 4 for a room out of range or a short buffer. Else
-- builds.
unfoldable pub flat_into : (from : List ℕ) (hs : List Factor) (table : List ℕ) (start : ℕ) (work : List ℕ) (room : ℕ) → Making
flat_into from hs table start work room =
    pick (ltb 8 (generators_of hs)) (making (refused_made 1 (generators_of hs)) table work)
    (pick (lent_right (length table) start (length work) room (generators_of hs))
    (lent_back table start work (generators_of hs) room
    (flat_in (table_need (generators_of hs) room) (take (work_need (generators_of hs) room) work) from hs (generators_of hs) room))
    (making (refused_made 4 0) table work))

-- The whole call: before the rest it refuses with 17 a handle that does not fit, then with 15 a product too large.
unfoldable pub flat : (from : List ℕ) (g : Group) (table : List ℕ) (start : ℕ) (work : List ℕ) (room : ℕ) → Making
flat from g table start work room =
    if_making (admits (length from) g 0 1 0 1) table work (flat_into from (handles g) table start work room)
