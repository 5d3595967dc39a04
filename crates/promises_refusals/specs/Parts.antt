-- The parts of what a call that makes a factor comes to, and an element by its number, for the cases that are computed.
use Rattle.std.specs.Prelude.{ℕ, List}
use Rattle.egg.specs.Answers.{Made}
use Rattle.egg.specs.declared.GroupElementId.{GroupElementId}
use Rattle.build_lending.specs.Lending.{Making, making}

-- What a call answers.
abbrev pub made_by : Making → Made
made_by (making m t w) = m

-- What a call leaves in the table.
abbrev pub table_by : Making → List ℕ
table_by (making m t w) = t

-- The element with this number.
abbrev pub element : ℕ → GroupElementId
element e = record { 0 = e }
