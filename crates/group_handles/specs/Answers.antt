-- What a call that makes a product answers.
use Rattle.std.specs.Prelude.{Result}
use Rattle.egg.specs.declared.Refusal.{Refusal}
use Rattle.group_handles.specs.declared.Group.{Group}

-- The product, or the refusal.
abbrev pub Grouped : Type 0
Grouped = Result Group Refusal
