-- What `build` reads: the builder's own successors, as composed rows are read, so that a factor is what its successors say. Document 01, module 3: "at (e,g),
-- in order, a number below the count is set, the count itself is a new element, more is 7. .. Rows never reached are not read."
use Rattle.std.specs.Prelude.{ℕ, zero, suc, ◌+◌, ◌*◌, ◌-◌, List, get_or, set, eqb, ltb, leb}
use Rattle.egg.specs.Answers.{Counted, Verdict, fine}
use Rattle.std.specs.Prelude.{Ok, Err}
use Rattle.egg.specs.Table.{pick, start_of}
use Rattle.egg.specs.Scan.{refused_of}
use Rattle.build_checks.specs.Checks.{check8}
use Rattle.egg.specs.Answers.{numbered}
use Rattle.build_reading.specs.Reading.{Placed, placed, then_placed, read_place}
use Rattle.build_lending.specs.Finish.{Built, zeroed, finished_placed}

-- What stands in the stretch for the step from e by g: one more than its number, or 0 where it is missing.
abbrev pub stored_at : List ℕ → ℕ → ℕ → ℕ → ℕ
stored_at s n e g = get_or s (start_of n e + g) 0

-- One place (e, g) of a builder with so many elements, where x stands: a missing step is passed over and left to 8; a number that is no element's is
-- 17, "a number read from it is out of range"; any other is read as a composed number is.
unfoldable pub own_place : (t : List ℕ) (n room elements count e g x : ℕ) → Placed
own_place t n room elements count e g x =
    pick (eqb x 0) (placed (Ok count) t)
    (pick (ltb elements x) (placed (Err (numbered 17 0 0 0)) t) (read_place t n room count e g (x - 1)))

-- The k places of row e from generator g on, in order.
unfoldable pub own_row : (k : ℕ) (own : ℕ → ℕ → ℕ) (n room elements e g count : ℕ) (t : List ℕ) → Placed
own_row zero own n room elements e g count t = placed (Ok count) t
own_row (suc k) own n room elements e g count t =
    then_placed (own_place t n room elements count e g (own e g)) (λ c t'. own_row k own n room elements e (g + 1) c t')

-- The rows from e on, while e is an element that is known; k of them at most. "Rows never reached are not read."
unfoldable pub own_from : (k : ℕ) (own : ℕ → ℕ → ℕ) (n room elements e count : ℕ) (t : List ℕ) → Placed
own_from zero own n room elements e count t = placed (Ok count) t
own_from (suc k) own n room elements e count t =
    pick (ltb e count) (then_placed (own_row n own n room elements e 0 count t) (λ c t'. own_from k own n room elements (e + 1) c t'))
    (placed (Ok count) t)

-- The whole reading, from the identity alone; no more elements than the builder has can be reached.
abbrev pub own_all : (own : ℕ → ℕ → ℕ) (n room elements : ℕ) (t : List ℕ) → Placed
own_all own n room elements t = own_from elements own n room elements 0 1 t

-- The verdict on a reading that has reached `count` elements. "Rows never reached are not read", so in the table that was read into all their steps
-- are missing: 8 is tested over all the builder's elements, "successors are searched before predecessors", and refuses at the first element that is
-- not reached at the latest. Without generators no step can be missing, and only a handle that was altered has more than the identity: 17.
unfoldable pub all_reached : List ℕ → ℕ → ℕ → ℕ → Verdict
all_reached t n elements count =
    pick (leb elements count) fine
    (pick (eqb n 0) (refused_of 17 0 0 0) (check8 t n elements))

-- The count, unless the verdict is a refusal.
abbrev pub count_unless : ℕ → Verdict → Counted
count_unless count (Ok _) = Ok count
count_unless count (Err r) = Err r

-- What a reading comes to with that verdict: a refusal of the reading stands.
abbrev pub reaches_all : ℕ → ℕ → Placed → Placed
reaches_all n elements (placed (Ok count) t) = placed (count_unless count (all_reached t n elements count)) t
reaches_all n elements (placed (Err r) t) = placed (Err r) t

-- While the table is zeroed and read into, the successors stand in the work: row after row, n numbers each.
abbrev pub copied_step : List ℕ → ℕ → ℕ → ℕ → ℕ
copied_step w n e g = get_or w (e * n + g) 0

-- The k successors of e from generator g on, copied.
unfoldable pub copied_row : (k : ℕ) (t : List ℕ) (n e g : ℕ) (w : List ℕ) → List ℕ
copied_row zero t n e g w = w
copied_row (suc k) t n e g w = copied_row k t n e (g + 1) (set w (e * n + g) (stored_at t n e g))

-- The same for k elements from e on.
unfoldable pub copied : (k : ℕ) (t : List ℕ) (n e : ℕ) (w : List ℕ) → List ℕ
copied zero t n e w = w
copied (suc k) t n e w = copied k t n (e + 1) (copied_row n t n e 0 w)

-- The build in its stretches: the table's is zeroed first, and what stood there is read into it; then come the checks, in the work as the copying has
-- left it. What the work holds then decides nothing: the checks store each number of it before they read it, and it is zeroed at their end.
unfoldable pub own_in : (s w : List ℕ) (n room elements : ℕ) → Built
own_in s w n room elements =
    finished_placed (reaches_all n elements (own_all (stored_at s n) n room elements (zeroed s))) n (copied elements s n 0 w)
