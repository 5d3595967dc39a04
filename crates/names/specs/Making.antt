-- The calls that make a factor, with its name beside it. Order 1: "Numbers, tables and version 1 images are as before; an image read back, a
-- flattened table and a subgroup have the empty name." Each is the call without a name, by that call's own definition.
use Rattle.std.specs.Prelude.{ℕ, List, length, leb}
use Rattle.egg.specs.Answers.{Made, Verdict, numbered}
use Rattle.std.specs.Prelude.{Result, Ok, Err}
use Rattle.egg.specs.declared.Refusal.{Refusal}
use Rattle.egg.specs.Table.{pick}
use Rattle.build_lending.specs.Lending.{Making, making}
use Rattle.builder.specs.Answers.{Begun}
use Rattle.builder.specs.Calls.{Leaving, leaving, begins, builds}
use Rattle.factor.specs.Composed.{composed}
use Rattle.enumeration.specs.Calls.{enumerates}
use Rattle.image.specs.Read.{read_image}
use Rattle.group_flatten.specs.Flat.{flat}
use Rattle.names_values.specs.declared.Name.{Name}
use Rattle.names_values.specs.declared.NamedBuilder.{NamedBuilder}
use Rattle.names_values.specs.Answers.{NamedMade, NamedBegun}
use Rattle.names_values.specs.declared.NamedGroup.{NamedGroup}
use Rattle.names_values.specs.Names.{name_of, no_name}
use Rattle.names.specs.Arguments.{composed_right, enumerate_right, begin_right}

-- What a call that makes a factor answers, and what table and work hold then.
pub data NamedMaking : Type 0 where
  named_making : NamedMade → List ℕ → List ℕ → NamedMaking

-- What was made, with the name beside it; beside a refusal there is none.
abbrev pub made_named : Made → Name → NamedMade
made_named (Ok f) m = Ok (record { factor = f; name = m })
made_named (Err r) m = Err r

-- The same, and what the buffers hold.
abbrev pub with_name : Name → Making → NamedMaking
with_name m (making x t w) = named_making (made_named x m) t w

-- 18, after what the other arguments are refused with.
abbrev pub too_long : {A : Type 0} → Verdict → Result A Refusal
too_long (Ok _) = Err (numbered 18 0 0 0)
too_long (Err r) = Err r

-- What a call comes to that is given its factor's name in bytes: what it makes without one; or, for a name over 32 bytes, a refusal that touches
-- nothing.
abbrev pub makes_named : List ℕ → Verdict → List ℕ → List ℕ → Making → NamedMaking
makes_named name right t w made = pick (leb (length name) 32) (with_name (name_of name) made) (named_making (too_long right) t w)

-- What `from_composed` does.
unfoldable pub named_composed : (table : List ℕ) (start : ℕ) (work rows : List ℕ) (n room : ℕ) (name : List ℕ) → NamedMaking
named_composed table start work rows n room name =
    makes_named name (composed_right (length table) start (length work) (length rows) n room) table work (composed table start work rows n room)

-- What `enumerate` does.
unfoldable pub named_enumerates : (table : List ℕ) (start : ℕ) (work orders : List ℕ) (n room : ℕ) (name : List ℕ) → NamedMaking
named_enumerates table start work orders n room name =
    makes_named name (enumerate_right (length table) start (length work) orders n room) table work (enumerates table start work orders n room)

-- The builder that was begun, with the name beside it.
abbrev pub begun_named : Begun → Name → NamedBegun
begun_named (Ok b) m = Ok (record { builder = b; name = m })
begun_named (Err r) m = Err r

-- The same, and what the table holds.
abbrev pub named_begun : Name → Leaving Begun → Leaving NamedBegun
named_begun m (leaving b t) = leaving (begun_named b m) t

-- What `begin` does.
unfoldable pub named_begins : (table : List ℕ) (start room n : ℕ) (name : List ℕ) → Leaving NamedBegun
named_begins table start room n name =
    pick (leb (length name) 32) (named_begun (name_of name) (begins table start room n))
    (leaving (too_long (begin_right (length table) start room n)) table)

-- What `build` does: the factor has the name that the build was begun with, whatever stands there.
unfoldable pub named_builds : List ℕ → NamedBuilder → List ℕ → NamedMaking
named_builds t b w = with_name b.name (builds t b.builder w)

-- What `read` does: "an image read back .. [has] the empty name".
unfoldable pub named_read : List ℕ → List ℕ → ℕ → List ℕ → NamedMaking
named_read image table start work = with_name no_name (read_image image table start work)

-- What `flatten` does: "a flattened table .. [has] the empty name".
unfoldable pub named_flat : (from : List ℕ) (g : NamedGroup) (table : List ℕ) (start : ℕ) (work : List ℕ) (room : ℕ) → NamedMaking
named_flat from g table start work room = with_name no_name (flat from g.group table start work room)
