-- What a question over lists answers: all places are right, or why not (`ListRefusal`).
-- Assumes nothing.
use Rattle.std.specs.Prelude.{Result, Ok, ⊤}
use Rattle.lists.specs.declared.ListRefusal.{ListRefusal}

abbrev pub Listed : Type 0
Listed = Result ⊤ ListRefusal

-- All places are right.
abbrev pub fine : Listed
fine = Ok tt
