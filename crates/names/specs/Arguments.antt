-- What the calls that make a factor test before the name: refusals 1 to 4, in the order in which these calls give them. Order 1: "18, name over 32
-- bytes (after 4, before the build)".
use Rattle.std.specs.Prelude.{ℕ, ◌*◌, List, ◌&&◌, ltb, leb}
use Rattle.egg.specs.Answers.{Verdict, fine}
use Rattle.egg.specs.Table.{pick}
use Rattle.egg.specs.Scan.{refused_of, and_then}
use Rattle.egg.specs.Pairs.{orders_right}
use Rattle.egg.specs.Factor.{has_room}
use Rattle.build_lending.specs.Lending.{lent_right}

-- Of `from_composed`, by the lengths of its lists: 1, then 4.
unfoldable pub composed_right : (table start work rows n room : ℕ) → Verdict
composed_right table start work rows n room =
    pick (ltb 8 n) (refused_of 1 n 0 0)
    (pick (lent_right table start work room n && leb (room * n) rows) fine (refused_of 4 0 0 0))

-- Of `enumerate`: 1, then 2 and 3, then 4.
unfoldable pub enumerate_right : (table start work : ℕ) (orders : List ℕ) (n room : ℕ) → Verdict
enumerate_right table start work orders n room =
    pick (ltb 8 n) (refused_of 1 n 0 0)
    (and_then (orders_right orders n)
    (pick (lent_right table start work room n) fine (refused_of 4 0 0 0)))

-- Of `begin`: 1, then 4.
unfoldable pub begin_right : (table start room n : ℕ) → Verdict
begin_right table start room n =
    pick (ltb 8 n) (refused_of 1 n 0 0)
    (pick (has_room table start room n) fine (refused_of 4 0 0 0))
