-- A piece's own places, and then what comes after them: one law for each answer.
use borrow.Author.Rules.{rules}
use Rattle.lists.proofs.Pieces.{none_left, place_fits, stops_here, goes_on}
use Rattle.lists_factor.proofs.Pieces.{compose_places}
use Rattle.lists_factor.proofs.inner.+compose_from.Goals as goal

pub returns-then-a-i : goal.returns-then-a-i
returns-then-a-i t c = none_left c.args.out.now c.if-a-i.true

pub behind-requires : goal.behind-requires
behind-requires t c = place_fits c.args.a.now c.chunk_end-end.ensures c.compose_into-said.ensures c.in-Err.is (search rules)

pub returns-in-Err : goal.returns-in-Err
returns-in-Err t c = stops_here c.args.a.now c.chunk_end-end.ensures c.compose_into-said.ensures _ (compose_places _ _ _ _ c.args.a.now c.args.b.now) c.in-Err.is c.behind.ensures

pub returns : goal.returns
returns t c = goes_on c.args.a.now c.chunk_end-end.ensures c.compose_into-said.ensures _ (compose_places _ _ _ _ c.args.a.now c.args.b.now) c.in_default.is c.compose_from-later.ensures c.hand_over_piece.ensures
