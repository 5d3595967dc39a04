-- The quick run, the checks and 13, one after the other; nothing where one of them stops.
use Rattle.enumeration.proofs.Calls.{quick_none, quick_same, limits_orders}
use mathlib.Core.Path.{refl}
use lib.ListN.{length}
use Rattle.enumeration.proofs.inner.enumerate_swiftly.Goals as goal

pub swiftly-run-requires : goal.swiftly-run-requires
swiftly-run-requires c = limits_orders c.requires

pub returns-in_default : goal.returns-in_default
returns-in_default c = quick_none _ _ _ _ _

pub relate-requires : goal.relate-requires
relate-requires c = (limits_orders c.requires).0

pub returns : goal.returns
returns c = quick_same (length c.args.t.now) (length c.args.w.now) c.args.orders.now _ _ c.args.w.now c.requires c.swiftly-run.ensures c.in-Done.is refl c.finish-read.ensures c.relate.ensures c.ok.ensures.value
