-- A place beyond the names has the empty one.
use mathlib.Core.Path.{◌∙◌}
use Rattle.names_joined.specs.Joined.{listed_names}
use Rattle.names.proofs.Names.{name_there, name_beyond}
use Rattle.names.proofs.inner.name_at.Goals as goal

pub returns-then-f-names_listed : goal.returns-then-f-names_listed
returns-then-f-names_listed c = name_there c.args.g _ c.names_listed.ensures.0 c.if-f-names_listed.true

pub returns : goal.returns
returns c = c.no_name.ensures ∙ name_beyond (listed_names c.args.g) _ c.names_listed.ensures.0 c.if-f-names_listed.false
