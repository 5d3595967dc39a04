-- At most eight names, by their places.
use mathlib.Core.List.{◌++◌}
use Rattle.names_joined.specs.Joined.{listed_names}
use Rattle.names.proofs.Names.{eight_by}
use Rattle.names.proofs.inner.both_names.Goals as goal

pub returns : goal.returns
returns c = eight_by (listed_names c.args.a ++ listed_names c.args.b) c.requires c.either.ensures c.either-2.ensures c.either-3.ensures c.either-4.ensures c.either-5.ensures c.either-6.ensures c.either-7.ensures c.either-8.ensures
