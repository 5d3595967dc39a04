-- What a call that makes a factor comes to, its name aside, and the name that the record has. Order 1: "Numbers, tables and version 1 images are as
-- before".
use Rattle.std.specs.Prelude.{◌≡◌}
use Rattle.egg.specs.declared.Refusal.{Refusal}
use Rattle.egg.specs.Answers.{Verdict, fine}
use Rattle.std.specs.Prelude.{Ok, Err}
use Rattle.egg.specs.Answers as answers
use Rattle.build_lending.specs.Lending.{Making, making}
use Rattle.builder.specs.Answers.{Begun}
use Rattle.builder.specs.Calls.{Leaving, leaving}
use Rattle.names_values.specs.declared.Name.{Name}
use Rattle.names_values.specs.Answers.{NamedBegun, unnamed_made, unnamed_begun}
use Rattle.names_values.specs.Names.{no_name}
use Rattle.names.specs.Making.{NamedMaking, named_making}
use Rattle.promises_refusals.specs.Papers.{answer_of}

-- What was made, without the name.
abbrev pub name_aside : NamedMaking → Making
name_aside (named_making x t w) = making (unnamed_made x) t w

-- The name in the record that was made; where none was made, the empty one stands for it.
abbrev pub name_made : NamedMaking → Name
name_made (named_making (Ok f) t w) = f.name
name_made (named_making (Err r) t w) = no_name

-- The build that was begun, without the name.
abbrev pub begun_aside : Leaving NamedBegun → Leaving Begun
begun_aside (leaving x t) = leaving (unnamed_begun x) t

-- The verdict of `begin`.
abbrev pub begun_answer : Leaving Begun → Verdict
begun_answer (leaving x t) = answers.answer_of x

-- The name that the begun build has; where none was begun, the empty one stands for it.
abbrev pub name_begun : Leaving NamedBegun → Name
name_begun (leaving (Ok b) t) = b.name
name_begun (leaving (Err r) t) = no_name

-- A call with names, x, makes name aside what the call without one makes: the same answer, handle, table and work. Its record has the name m where it
-- accepts, and the empty one where it refuses.
pub record AsBefore (m : Name) (made : Making) (x : NamedMaking) : Type 0 where
  pub as_before : name_aside x ≡ made
  pub accepted : answer_of made ≡ fine → name_made x ≡ m
  pub refused : {r : Refusal} → answer_of made ≡ Err r → name_made x ≡ no_name

-- The same of `begin`, which leaves a table and no work.
pub record BegunAsBefore (m : Name) (begun : Leaving Begun) (x : Leaving NamedBegun) : Type 0 where
  pub as_before : begun_aside x ≡ begun
  pub accepted : begun_answer begun ≡ fine → name_begun x ≡ m
  pub refused : {r : Refusal} → begun_answer begun ≡ Err r → name_begun x ≡ no_name
