-- What a build needs of the lent buffers, and how what it leaves in its stretches stands in them. Document 01: "Longer buffers are taken and the excess
-- is untouched. A factor may be built into any stretch of a longer table buffer."
use Rattle.egg.specs.Refusals.{numbered}
use Rattle.std.specs.Prelude.{ℕ, ◌+◌, ◌*◌, ◌≤◌, ◌≡◌, List, ◌++◌, Bool, ◌&&◌, take, drop, leb}
use Rattle.egg.specs.declared.Factor.{Factor}
use Rattle.egg.specs.Answers.{Counted, Made}
use Rattle.std.specs.Prelude.{Ok, Err}
use Rattle.egg.specs.Factor.{has_room}
use Rattle.egg.specs.Table.{work_of}
use Rattle.build_lending.specs.Finish.{Built, built}

-- "A build with n generators and room R needs exactly R(2n+4) entries of table .."
abbrev pub table_need : ℕ → ℕ → ℕ
table_need n room = room * (2 * n + 4)

-- ".. and R(6n²+4n) of work."
abbrev pub work_need : ℕ → ℕ → ℕ
work_need n room = room * work_of n

-- True where refusal 4, "room 0 or above 65,535, or a lent buffer short", is not due. (`has_room` also asks for at most 8 generators, which 1 has
-- shown by then.)
unfoldable pub lent_right : (table start work room n : ℕ) → Bool
lent_right table start work room n = has_room table start room n && leb (work_need n room) work

-- r is where a stretch of k numbers ends that starts at `start`, and it is within a buffer of `len` numbers.
pub record StretchEnd (r start k len : ℕ) : Type 0 where
  pub at : r ≡ start + k
  pub inside : r ≤ len

-- The list l with p in the place of its part from a to b.
unfoldable pub within : List ℕ → ℕ → ℕ → List ℕ → List ℕ
within l a b p = take a l ++ (p ++ drop b l)

-- What a call that makes a factor answers, and what table and work hold then.
pub data Making : Type 0 where
  making : Made → List ℕ → List ℕ → Making

-- A handle that fits no buffer, for the places of a list that hold none.
abbrev pub no_factor : Factor
no_factor = record { start = 0; room = 0; generators = 0; elements = 0 }

-- The answer for a build that counted its elements, with the handle of its stretch; a refused build has no factor.
abbrev pub made_of : ℕ → ℕ → ℕ → Counted → Made
made_of start room n (Ok count) =
    Ok (record { start = start; room = room; generators = n; elements = count })
made_of start room n (Err r) = Err r

-- The answer of a call that is refused before its build starts.
abbrev pub refused_made : ℕ → ℕ → Made
refused_made number a = Err (numbered number a 0 0)

-- A build's outcome put back into the buffers that its stretches were lent from.
abbrev pub lent_back : List ℕ → ℕ → List ℕ → ℕ → ℕ → Built → Making
lent_back table start work n room (built c t w) =
    making (made_of start room n c) (within table start (start + table_need n room) t) (within work 0 (work_need n room) w)
