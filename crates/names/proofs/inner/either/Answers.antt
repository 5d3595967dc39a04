-- A place of the two lists together is one of the first or one of the second.
use mathlib.Core.Path.{◌∙◌}
use native.Mathlib.Omega.{arith}
use Rattle.group_handles.proofs.Sums.{either_left, either_right}
use Rattle.names_values.specs.Names.{no_name}
use Rattle.names_joined.specs.Joined.{listed_names}
use Rattle.names.proofs.inner.either.Goals as goal

pub returns-then-i-k : goal.returns-then-i-k
returns-then-i-k c = c.name_at.ensures ∙ either_left no_name (listed_names c.args.a) (listed_names c.args.b) c.args.i (rw (← c.names_listed-k.ensures.0) c.if-i-k.true)

pub returns : goal.returns
returns c = c.name_at-2.ensures ∙ either_right no_name (listed_names c.args.a) (listed_names c.args.b) c.args.i _ (rw (← c.names_listed-k.ensures.0) (omega (arith, c.if-i-k.false)))
