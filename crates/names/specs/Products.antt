-- Products with the names of their factors beside them. Order 1: "Two factors that differ only in name answer every other question alike": a product
-- is refused or made by the handles alone.
use Rattle.std.specs.Prelude.{ℕ, ◌-◌, List, [], ◌∷◌, ◌++◌, length, replicate}
use Rattle.std.specs.Prelude.{Ok, Err}
use Rattle.group_handles.specs.declared.Group.{Group}
use Rattle.group_handles.specs.Answers.{Grouped}
use Rattle.group_handles.specs.Handles.{group_of, joins}
use Rattle.names_values.specs.declared.Name.{Name}
use Rattle.names_values.specs.declared.Named.{Named}
use Rattle.names_values.specs.declared.NamedGroup.{NamedGroup}
use Rattle.names_values.specs.Answers.{NamedGrouped}
use Rattle.names_values.specs.Names.{no_name}
use Rattle.names_joined.specs.Joined.{listed_names}

-- Names at eight places; those that are not used hold the empty name.
abbrev pub eight_names : List Name → List Name
eight_names ms = ms ++ replicate (8 - length ms) no_name

-- A product with the names of its factors.
abbrev pub with_names : Group → List Name → NamedGroup
with_names g ms = record { group = g; names = eight_names ms }

-- The product of one factor.
abbrev pub product_of_one : Named → NamedGroup
product_of_one f = with_names (group_of (f.factor ∷ [])) (f.name ∷ [])

-- What was made of the handles, with the names beside it; beside a refusal there are none.
abbrev pub grouped_with : Grouped → List Name → NamedGrouped
grouped_with (Ok g) ms = Ok (with_names g ms)
grouped_with (Err r) ms = Err r

-- What `product` answers: the names of the first, then those of the second.
unfoldable pub named_joins : ℕ → NamedGroup → NamedGroup → NamedGrouped
named_joins len a b = grouped_with (joins len a.group b.group) (listed_names a ++ listed_names b)
