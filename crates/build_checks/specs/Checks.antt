-- Refusals 8 to 12 on a table of n generators and `count` elements, in document 01's order: "Reading ends before 8; then 8 to 13 in order. Places are
-- the first in element order, then generator order; for 8 successors are searched before predecessors."
use Rattle.std.specs.Prelude.{ℕ, zero, suc, ◌+◌, ◌*◌, List, get_or, eqb, ltb, leb}
use Rattle.egg.specs.Answers.{Verdict, fine}
use Rattle.std.specs.Prelude.{Ok, Err}
use Rattle.egg.specs.Table.{pick, put_at, start_of, parent_of, last_of, length_of, step_of}
use Rattle.egg.specs.Scan.{refused_of, and_then, scan}
use Rattle.build_checks_inverses.specs.Inverses.{fill_inverses, inverses_right}
use Rattle.build_checks_group.specs.Lefts.{check_steps, Lefts, left, lefts}

-- Refusal 8, "a successor or predecessor missing", at one place: what stands there is still 0. With shift 0 it is a successor, with shift n a
-- predecessor, since these stand n places later.
abbrev pub missing_at : (t : List ℕ) (n shift e g : ℕ) → Verdict
missing_at t n shift e g = pick (eqb (get_or t (start_of n e + shift + g) 0) 0) (refused_of 8 e g 0) fine

-- The first such place of a row.
unfoldable pub missing_row : List ℕ → ℕ → ℕ → ℕ → Verdict
missing_row t n shift e = scan n (λ g. missing_at t n shift e g) 0

-- The first such place of the table.
unfoldable pub missing : List ℕ → ℕ → ℕ → ℕ → Verdict
missing t n count shift = scan count (λ e. missing_row t n shift e) 0

-- Refusal 8 of the whole table: "for 8 successors are searched before predecessors".
unfoldable pub check8 : List ℕ → ℕ → ℕ → Verdict
check8 t n count = and_then (missing t n count 0) (missing t n count n)

-- Refusal 17, "a number read from it is out of range", for a stored step or step back beyond the elements. 17 is tested after 8 and before 9, so that
-- all tests below read numbers in range. No reading and no enumeration leaves a table that fails here; the checks do not rest on that.
abbrev pub range_at : (t : List ℕ) (n count e k : ℕ) → Verdict
range_at t n count e k = pick (ltb count (get_or t (start_of n e + 0 + k) 0)) (refused_of 17 0 0 0) fine

-- The same for all steps and steps back of a row.
unfoldable pub range_row : List ℕ → ℕ → ℕ → ℕ → Verdict
range_row t n count e = scan (2 * n) (λ k. range_at t n count e k) 0

-- Refusal 17 in the record of a word: a length over 4,096, a parent that is no earlier element, or a last letter that is no generator. Only the three
-- bits of the letter are looked at: nobody reads what stands above them, and it is written anew when all checks have passed.
unfoldable pub links_of : List ℕ → ℕ → ℕ → Verdict
links_of t n e =
    pick (ltb 4096 (length_of t n e)) (refused_of 17 0 0 0)
    (pick (eqb e 0) fine
    (pick (leb e (parent_of t n e)) (refused_of 17 0 0 0)
    (pick (leb n (last_of t n e)) (refused_of 17 0 0 0) fine)))

-- Refusal 17 in the whole table, row by row.
unfoldable pub ranges : List ℕ → ℕ → ℕ → Verdict
ranges t n count = scan count (λ e. and_then (range_row t n count e) (links_of t n e)) 0

-- Refusal 9, "a fixed point or wrong generator row" (003), at one place: a step that stays where it is, or a step by g to the element of g that is
-- not from the identity.
abbrev pub wrong_at : List ℕ → ℕ → ℕ → ℕ → Verdict
wrong_at t n e g =
    pick (eqb (step_of t n e g) e) (refused_of 9 e g 0)
    (pick (eqb e 0) fine (pick (eqb (step_of t n e g) (step_of t n 0 g)) (refused_of 9 e g 0) fine))

-- The first such place of a row.
unfoldable pub wrong_row : List ℕ → ℕ → ℕ → Verdict
wrong_row t n e = scan n (λ g. wrong_at t n e g) 0

-- The first such place of the table.
unfoldable pub wrong : List ℕ → ℕ → ℕ → Verdict
wrong t n count = scan count (λ e. wrong_row t n e) 0

-- All that is tested on the table alone: 8, then 17, then 9 but for its counts.
unfoldable pub check_table : List ℕ → ℕ → ℕ → Verdict
check_table t n count = and_then (check8 t n count) (and_then (ranges t n count) (wrong t n count))

-- The work with zeros in k numbers from e on, before arrivals are counted in it.
unfoldable pub wiped : ℕ → List ℕ → ℕ → List ℕ
wiped zero w e = w
wiped (suc k) w e = wiped k (put_at w e 0) (e + 1)

-- The work with the arrivals by k steps from e counted in it, from generator g on.
unfoldable pub arrive_row : (k : ℕ) (t : List ℕ) (n e : ℕ) (w : List ℕ) (g : ℕ) → List ℕ
arrive_row zero t n e w g = w
arrive_row (suc k) t n e w g = arrive_row k t n e (put_at w (step_of t n e g) (get_or w (step_of t n e g) 0 + 1)) (g + 1)

-- The work with the arrivals by all steps from k elements counted in it, from e on.
unfoldable pub arrivals : (k : ℕ) (t : List ℕ) (n : ℕ) (w : List ℕ) (e : ℕ) → List ℕ
arrivals zero t n w e = w
arrivals (suc k) t n w e = arrivals k t n (arrive_row n t n e w 0) (e + 1)

-- Refusal 9, "or count (003)": the arrivals at each element, over all generators together, must be n. "For a count the element and n."
unfoldable pub counts_right : List ℕ → ℕ → ℕ → Verdict
counts_right w n count = scan count (λ e. pick (eqb (get_or w e 0) n) fine (refused_of 9 e n 0)) 0

-- What the checks come to: the verdict, and what table and work hold then.
pub data Checked : Type 0 where
  checked : Verdict → List ℕ → List ℕ → Checked

-- The verdict alone.
abbrev pub verdict_of : Checked → Verdict
verdict_of (checked v t w) = v

-- What comes after a verdict: c where it is fine, else the refusal with table and work as they stand.
abbrev pub then_checked : Verdict → List ℕ → List ℕ → Checked → Checked
then_checked (Ok _) t w c = c
then_checked (Err r) t w c = checked (Err r) t w

-- What the last part of 12 comes to, with the table beside it, which that part does not change.
abbrev pub with_table : List ℕ → Lefts → Checked
with_table t (left v w) = checked v t w

-- The work with all arrivals counted in its first numbers.
abbrev pub counted : List ℕ → List ℕ → ℕ → ℕ → List ℕ
counted t w n count = arrivals count t n (wiped count w 0) 0

-- Refusals 10, 11 and 12, on a table that has its inverses.
unfoldable pub check_rest : List ℕ → List ℕ → ℕ → ℕ → Checked
check_rest t w n count =
    then_checked (inverses_right t n count) t w (then_checked (check_steps t n count) t w (with_table t (lefts n t n count w 0)))

-- Refusals 8 to 12 in order; where 9 has passed, the table has its inverses.
unfoldable pub check_group : List ℕ → List ℕ → ℕ → ℕ → Checked
check_group t w n count =
    then_checked (check_table t n count) t w
    (then_checked (counts_right (counted t w n count) n count) t (counted t w n count)
    (check_rest (fill_inverses count t n 0) (counted t w n count) n count))
