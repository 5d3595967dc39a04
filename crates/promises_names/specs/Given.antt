-- A factor with a name is accepted as one without. `Accepted` is about the handle: "its handle and its needed stretch of table come unaltered from the
-- call that accepted it", and no name is in either.
use Rattle.std.specs.Prelude.{ℕ, ◌≤◌, ◌≡◌, List, length}
use Rattle.names_values.specs.declared.Name.{Name}
use Rattle.names_values.specs.Names.{name_of}

-- What a call gives that has accepted a factor with these bytes for a name: what it gives without a name; the name is at most 32 bytes, and is kept.
pub record NamedGiven {ℓ} (given : Type ℓ) (name : List ℕ) (m : Name) : Type ℓ where
  pub as_unnamed : given
  pub short : length name ≤ 32
  pub kept : m ≡ name_of name
