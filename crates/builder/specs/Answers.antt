-- What beginning a build answers, and what storing a step does.
use Rattle.std.specs.Prelude.{Result}
use Rattle.egg.specs.declared.Refusal.{Refusal}
use Rattle.builder.specs.declared.Builder.{Builder}
use Rattle.builder.specs.declared.Stored.{Stored}

-- The builder, or the refusal.
abbrev pub Begun : Type 0
Begun = Result Builder Refusal

-- Whether the step was new or had been known, or the refusal.
abbrev pub Storing : Type 0
Storing = Result Stored Refusal
