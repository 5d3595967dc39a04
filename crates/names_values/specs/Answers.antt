-- What the calls with names answer, and the same without the names.
use Rattle.std.specs.Prelude.{Result, Ok, Err}
use Rattle.egg.specs.declared.Refusal.{Refusal}
use Rattle.egg.specs.Answers.{Made}
use Rattle.builder.specs.Answers.{Begun}
use Rattle.group_handles.specs.Answers.{Grouped}
use Rattle.names_values.specs.declared.Named.{Named}
use Rattle.names_values.specs.declared.NamedBuilder.{NamedBuilder}
use Rattle.names_values.specs.declared.NamedGroup.{NamedGroup}

-- A factor and its name, or the refusal.
abbrev pub NamedMade : Type 0
NamedMade = Result Named Refusal

-- A build that has a name, or the refusal.
abbrev pub NamedBegun : Type 0
NamedBegun = Result NamedBuilder Refusal

-- A product whose factors have names, or the refusal.
abbrev pub NamedGrouped : Type 0
NamedGrouped = Result NamedGroup Refusal

-- The factor alone.
abbrev pub unnamed_made : NamedMade → Made
unnamed_made (Ok f) = Ok f.factor
unnamed_made (Err r) = Err r

-- The build alone.
abbrev pub unnamed_begun : NamedBegun → Begun
unnamed_begun (Ok b) = Ok b.builder
unnamed_begun (Err r) = Err r

-- The product alone.
abbrev pub unnamed_grouped : NamedGrouped → Grouped
unnamed_grouped (Ok g) = Ok g.group
unnamed_grouped (Err r) = Err r
