-- What the quick way accepted; else the run, the checks and 13, one after the other.
use Rattle.enumeration.proofs.Calls.{limits_orders, enumerated_in_lem}
use lib.ListN.{length}
use Rattle.enumeration.proofs.inner.enumerate_in.Goals as goal

pub returns-in-Some : goal.returns-in-Some
returns-in-Some c = c.enumerate_swiftly.ensures.same c.in-Some.elements c.in-Some.is

pub enumerate-run-requires : goal.enumerate-run-requires
enumerate-run-requires c = limits_orders c.requires

pub relate-requires : goal.relate-requires
relate-requires c = (limits_orders c.requires).0

pub returns : goal.returns
returns c = enumerated_in_lem (length c.args.t.now) (length c.args.w.now) c.args.orders.now _ _ c.enumerate_swiftly.auto.t c.enumerate_swiftly.auto.w c.enumerate-run.ensures c.counted.ensures c.finish-count.ensures c.relate.ensures
