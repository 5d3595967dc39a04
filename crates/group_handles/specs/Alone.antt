-- This file defines when a product has one factor and no more, so that it answers as the factor does. Document 01: "factors per product 0 to 8".
use Rattle.std.specs.Prelude.{◌≡◌, [], ◌∷◌, get_or}
use Rattle.build_lending.specs.Lending.{no_factor}
use Rattle.group_handles.specs.declared.Group.{Group}
use Rattle.group_handles.specs.Handles.{handles}

-- Its one handle is the first of the eight.
pub record Alone (g : Group) : Type 0 where
  pub counted : g.count ≡ 1
  pub listed : handles g ≡ get_or g.factors 0 no_factor ∷ []
