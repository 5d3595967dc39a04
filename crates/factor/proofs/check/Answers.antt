-- The handle fits, so there are at most 8 generators, and a right list of orders has at most 28.
use lib.ListN.{length}
use Rattle.egg.proofs.Rooms.{few, has}
use Rattle.factor.proofs.Admits.{admitted}
use Rattle.factor_relations.proofs.Relations.{orders_few}
use Rattle.factor.proofs.check.Goals as goal

pub part-requires : goal.part-requires
part-requires c = let a = c.args in admitted (length a.table.now) a.f _ _ c.admit.ensures c.in_ok-admit.was

pub relations-requires : goal.relations-requires
relations-requires c = let a = c.args in orders_few a.orders.now a.f.generators (few (length a.table.now) a.f.start a.f.room a.f.generators (has (length a.table.now) a.f (admitted (length a.table.now) a.f _ _ c.admit.ensures c.in_ok-admit.was))) c.orders_right.ensures c.in_ok-orders_right.was
