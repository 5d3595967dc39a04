-- The joined name of a product. Order 1: "a product to show them joined by " x "", which is 32, 120, 32 in bytes.
use Rattle.std.specs.Prelude.{ℕ, zero, suc, ◌+◌, ◌≡◌, List, [], ◌∷◌, ◌++◌, Bool, true, ◌&&◌, length, take, drop, leb}
use Rattle.egg.specs.Answers.{Counted}
use Rattle.std.specs.Prelude.{Ok, Err}
use Rattle.egg.specs.Answers.{numbered}
use Rattle.egg.specs.Table.{pick}
use Rattle.names_values.specs.declared.Name.{Name}
use Rattle.names_values.specs.declared.NamedGroup.{NamedGroup}
use Rattle.names_values.specs.Names.{bytes_of}

-- The names of the factors that are listed.
abbrev pub listed_names : NamedGroup → List Name
listed_names g = take g.group.count g.names

-- Whether every recorded length is one that a name can have. Only an altered record has a longer one, and counts as a handle that does not fit.
unfoldable pub names_fit : List Name → Bool
names_fit [] = true
names_fit (m ∷ ms) = leb m.length 32 && names_fit ms

-- What stands between each two names.
abbrev pub between : List ℕ
between = 32 ∷ 120 ∷ 32 ∷ []

-- What stands before the name at a place: nothing before the first.
abbrev pub gap_at : ℕ → List ℕ
gap_at zero = []
gap_at (suc f) = between

-- The names from the place f on, an empty one too, each with what stands before it.
unfoldable pub joined_from : ℕ → List Name → List ℕ
joined_from f [] = []
joined_from f (m ∷ ms) = gap_at f ++ (bytes_of m ++ joined_from (f + 1) ms)

-- The names of all factors in their order, joined; of no factors, no byte.
abbrev pub joined_name : List Name → List ℕ
joined_name ms = joined_from 0 ms

-- How long the joined name is: 17, "the handle doesn't fit its buffer", for a recorded length that is no name's.
unfoldable pub joined_length : List Name → Counted
joined_length ms = pick (names_fit ms) (Ok (length (joined_name ms))) (Err (numbered 17 0 0 0))

-- A buffer with these bytes at its start; what is behind them stays.
abbrev pub at_start : List ℕ → List ℕ → List ℕ
at_start part out = part ++ drop (length part) out

-- What putting bytes into a buffer from `at` on comes to: they stand there, all else stays, and the answer is where they end.
pub record PutFrom (part before : List ℕ) (at : ℕ) (after : List ℕ) (end : ℕ) : Type 0 where
  pub to : end ≡ at + length part
  pub is : after ≡ take at before ++ (part ++ drop (at + length part) before)
