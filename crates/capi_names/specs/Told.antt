-- What the C functions leave that make a factor with a name: what those without a name leave, and the name.
use Rattle.std.specs.Prelude.{ℕ, List, [], ◌∷◌, length, ltb}
use Rattle.std.specs.Prelude.{Ok, Err}
use Rattle.egg.specs.Answers.{answer_of}
use Rattle.egg.specs.Table.{pick}
use Rattle.egg.specs.Factor.{verdict_paper}
use Rattle.builder.specs.Calls.{Leaving, leaving}
use Rattle.capi_values.specs.Bridge.{made_into, Telling, telling, in_out}
use Rattle.capi_builder.specs.Answers.{begun_into}
use Rattle.names_values.specs.Answers.{NamedMade, NamedBegun, unnamed_made, unnamed_begun}
use Rattle.names.specs.Making.{NamedMaking, named_making}
use Rattle.capi_names.specs.Names.{record_into}

-- "4 | .. a lent buffer short": where `out` has fewer than 5 numbers or the list of the name fewer than 33 bytes, 4 is returned before anything else is
-- looked at, and no list is touched.
unfoldable pub in_both : List ℕ → List ℕ → List (List ℕ) → Telling → Telling
in_both out kept lent done = in_out 5 out lent (pick (ltb (length kept) 33) (telling 4 out lent) done)

-- What was made: its verdict and count, the table and the work, and its name where it was accepted.
abbrev pub named_told : NamedMaking → List ℕ → List ℕ → Telling
named_told (named_making m t w) out kept =
    telling (verdict_paper (answer_of m)).number (made_into (unnamed_made m) out) (t ∷ w ∷ record_into m kept ∷ [])

-- A build that was begun as a factor, which has its name.
abbrev pub as_made : NamedBegun → NamedMade
as_made (Ok b) = Ok (record { factor = b.builder.0; name = b.name })
as_made (Err r) = Err r

-- What was begun: its verdict and count, the table, and the name that the factor will have.
abbrev pub named_begun_told : Leaving NamedBegun → List ℕ → List ℕ → Telling
named_begun_told (leaving b t) out kept =
    telling (verdict_paper (answer_of b)).number (begun_into (unnamed_begun b) out) (t ∷ record_into (as_made b) kept ∷ [])
