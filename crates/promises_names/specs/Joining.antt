-- Names kept and joined. Order 1: "a name of 0 to 32 bytes, held by value", "a product to show them joined by " x "".
use Rattle.std.specs.Prelude.{ℕ, ◌≤◌, ◌≡◌, List, [], ◌∷◌, ◌++◌, length, get_or}
use Rattle.names_values.specs.declared.Name.{Name}
use Rattle.names_values.specs.declared.NamedGroup.{NamedGroup}
use Rattle.names_values.specs.Names.{bytes_of}
use Rattle.names_joined.specs.Joined.{between}

-- A name of 0 to 32 bytes is kept so: its bytes can be had back, and what is behind them in the 32 is zero.
pub record NameKept (b : List ℕ) (m : Name) : Type 0 where
  pub had_back : bytes_of m ≡ b
  pub counted : m.length ≡ length b
  pub by_value : length m.bytes ≡ 32
  pub zeros : {i : ℕ} → length b ≤ i → get_or m.bytes i 0 ≡ 0

-- The bytes of a list of names with " x " between each two, an empty one too: no byte for no name, and a name by itself for one.
unfoldable pub bytes_joined : List (List ℕ) → List ℕ
bytes_joined [] = []
bytes_joined (b ∷ []) = b
bytes_joined (b ∷ c ∷ bs) = b ++ (between ++ bytes_joined (c ∷ bs))

-- A product has eight places for handles and eight for names, as the type of the value says.
pub record EightPlaces (g : NamedGroup) : Type 0 where
  pub handles : length g.group.factors ≡ 8
  pub names : length g.names ≡ 8
