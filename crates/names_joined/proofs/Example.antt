-- A joined name as it is read: of factors that are named S3 and A4, with one between them that has no name.
use mathlib.Core.Path.{◌≡◌, refl}
use mathlib.Core.List.{[], ◌∷◌}
use Rattle.names_values.specs.Names.{name_of, no_name}
use Rattle.names_joined.specs.Joined.{joined_from, joined_name}

pub example_joined : joined_name (name_of (83 ∷ 51 ∷ []) ∷ no_name ∷ name_of (65 ∷ 52 ∷ []) ∷ [])
    ≡ 83 ∷ 51 ∷ 32 ∷ 120 ∷ 32 ∷ 32 ∷ 120 ∷ 32 ∷ 65 ∷ 52 ∷ []
unfolding joined_from
example_joined = refl
