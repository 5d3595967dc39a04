-- This file defines how the digits of an element are written to a lent list, and how an element is put together from them. Document 01: "First factor
-- is the fastest digit", and "Calls on handles check 17 in the handle, then 14, then 15, then 1 to 4".
use Rattle.std.specs.Prelude.{ℕ, List, ◌++◌, length, get_or, drop, ltb, leb}
use Rattle.egg.specs.Answers.{Counted, Reached, Verdict, fine}
use Rattle.egg.specs.Refusals.{numbered}
use Rattle.std.specs.Prelude.{Ok, Err}
use Rattle.egg.specs.declared.Factor.{Factor}
use Rattle.egg.specs.Table.{pick}
use Rattle.egg.specs.Scan.{refused_of, scan}
use Rattle.egg.specs.Factor.{refused_reach}
use Rattle.theory_radix.specs.Radix.{split, join}
use Rattle.group_handles.specs.declared.Group.{Group}
use Rattle.group_handles.specs.Handles.{handles, sizes, limited}

-- How many digits are written into a lent list of `size` numbers: one for each factor. Refuses with 4 a list that is short.
unfoldable pub split_tail : List Factor → ℕ → Counted
split_tail hs size = pick (ltb size (length hs)) (Err (numbered 4 0 0 0)) (Ok (length hs))

-- What the list holds afterwards: the digits of e at its start; after a refusal, what it held.
abbrev pub digits_left : Counted → List ℕ → ℕ → List ℕ → List ℕ
digits_left (Ok k) Ns e out = split Ns e ++ drop k out
digits_left (Err r) Ns e out = out

-- Refuses with 14 the digit at f where it is no element of its factor; the place is f.
abbrev pub digit_right : List ℕ → List ℕ → ℕ → Verdict
digit_right Ns ds f = pick (ltb (get_or ds f 0) (get_or Ns f 1)) fine (refused_of 14 f 0 0)

-- The smaller of two numbers.
abbrev pub fewer : ℕ → ℕ → ℕ
fewer a b = pick (leb a b) a b

-- The first refusal among the digits that are there: a shorter list is refused later, with 4.
unfoldable pub digits_right : List ℕ → List ℕ → Verdict
digits_right Ns ds = scan (fewer (length Ns) (length ds)) (digit_right Ns ds) 0

-- The element whose digits the lent list starts with, when they are in range. Refuses in this order: 15 for a product too large, 4 for a list with
-- fewer digits than there are factors.
unfoldable pub join_tail : Group → List ℕ → Reached
join_tail g ds =
    pick (limited g)
    (pick (ltb (length ds) (length (handles g))) (refused_reach 4 0) (Ok (record { 0 = join (sizes (handles g)) ds })))
    (refused_reach 15 0)
