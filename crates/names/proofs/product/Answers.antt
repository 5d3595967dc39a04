-- A product that is accepted has at most eight handles, and as many names.
use Rattle.egg.proofs.Refusing.{handed_on}
use Rattle.names_joined.proofs.Turns.{fronts_alike}
use mathlib.Core.Path.{◌∙◌}
use lib.ListN.{length}
use Rattle.names.specs.Products.{named_joins}
use Rattle.names.proofs.Names.{names_short}
use Rattle.names.proofs.product.Goals as goal

pub both_names-requires : goal.both_names-requires
both_names-requires c = names_short (length c.args.table.now) c.args.a c.args.b
    (fronts_alike c.args.a.group.count c.args.a.group.factors c.args.a.names
    c.well_formed.1.0.1.1.0.1.1.0.1.0.1
    c.well_formed.1.0.1.1.1.0.1.0.1)
    (fronts_alike c.args.b.group.count c.args.b.group.factors c.args.b.names
    c.well_formed.1.1.0.1.1.0.1.1.0.1.0.1
    c.well_formed.1.1.0.1.1.1.0.1.0.1)
    c.product.ensures c.in_ok-group.was

pub returns-in_err-group : goal.returns-in_err-group
unfolding named_joins
returns-in_err-group c = handed_on c.from_residual.ensures ∙ rw (← c.product.ensures, c.in_err-group.was)

pub returns : goal.returns
unfolding named_joins
returns c = rw (← c.product.ensures, c.in_ok-group.was, c.both_names.ensures)
