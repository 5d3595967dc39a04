-- This file defines how a C caller passes names: 33 bytes each in a lent list, those of the name, zeros behind them, and its length last.
use Rattle.std.specs.Prelude.{ℕ, ◌+◌, ◌*◌, List, [], ◌∷◌, ◌++◌, length, get_or, take, drop, replicate, ltb}
use Rattle.std.specs.Prelude.{Ok, Err}
use Rattle.egg.specs.Table.{pick}
use Rattle.capi_handles.specs.Product.{product_of}
use Rattle.names_values.specs.declared.Name.{Name}
use Rattle.names_values.specs.declared.NamedGroup.{NamedGroup}
use Rattle.names_values.specs.Answers.{NamedMade}
use Rattle.names_joined.specs.Joined.{at_start}

-- What stands for a name where the list is too short for it: its length is no name's, which is 17.
abbrev pub misfit : Name
misfit = record { bytes = replicate 32 0; length = 255 }

-- The name at place i of a list.
unfoldable pub name_at : List ℕ → ℕ → Name
name_at l i = pick (ltb (length l) (i * 33 + 33)) misfit (record { bytes = take 32 (drop (i * 33) l); length = get_or l (i * 33 + 32) 0 })

-- The product of the listed handles with the names of its factors, in the same order. Only those of listed factors are looked at.
unfoldable pub named_product : List ℕ → ℕ → List ℕ → NamedGroup
named_product handles count names = record {
  group = product_of handles count;
  names = name_at names 0 ∷ name_at names 1 ∷ name_at names 2 ∷ name_at names 3 ∷ name_at names 4 ∷ name_at names 5 ∷ name_at names 6 ∷ name_at names 7 ∷ [];
}

-- A name as it stands in such a list.
abbrev pub record_of : Name → List ℕ
record_of m = m.bytes ++ (m.length ∷ [])

-- What a lent list holds by the answer of the call that makes the factor: the name at its start where it accepts; else what it held.
abbrev pub record_into : NamedMade → List ℕ → List ℕ
record_into (Ok f) l = at_start (record_of f.name) l
record_into (Err r) l = l
