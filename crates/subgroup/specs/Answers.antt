-- What the question answers that carries an element of the overgroup back.
use Rattle.std.specs.Prelude.{Option, Result}
use Rattle.egg.specs.declared.GroupElementId.{GroupElementId}
use Rattle.egg.specs.declared.Refusal.{Refusal}

-- The element of the subgroup, or that it is outside, or the refusal.
abbrev pub Within : Type 0
Within = Result (Option GroupElementId) Refusal
