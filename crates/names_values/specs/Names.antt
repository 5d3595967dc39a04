-- A factor's name. Order 1: "The record of a factor gains a name of 0 to 32 bytes, held by value."
use Rattle.std.specs.Prelude.{ℕ, ◌-◌, List, [], ◌++◌, length, take, replicate}
use Rattle.egg.specs.declared.Factor.{Factor}
use Rattle.names_values.specs.declared.Name.{Name}
use Rattle.names_values.specs.declared.Named.{Named}

-- The name that a list of at most 32 bytes is: these bytes, zeros behind them, and their count.
abbrev pub name_of : List ℕ → Name
name_of b = record { bytes = b ++ replicate (32 - length b) 0; length = length b }

-- The name of what is made without one: "an image read back, a flattened table and a subgroup have the empty name".
abbrev pub no_name : Name
no_name = name_of []

-- The record of a factor without a name.
abbrev pub unnamed_of : Factor → Named
unnamed_of f = record { factor = f; name = no_name }

-- The bytes of a name.
abbrev pub bytes_of : Name → List ℕ
bytes_of m = take m.length m.bytes
