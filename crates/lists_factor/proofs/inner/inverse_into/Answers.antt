-- Every place was found, or the rest is asked one after another.
use Rattle.lists.proofs.Places.{all_worked, all_places}
use borrow.Author.Rules.{rules}
use native.Mathlib.Omega.{arith}
use Rattle.lists_factor.proofs.inner.inverse_into.Goals as goal

pub returns-then-a-found : goal.returns-then-a-found
returns-then-a-found c = all_worked (all_places (c.inverses_found-found.ensures.1) (omega (arith, c.if-a-found.true))) (search rules)

pub inverse_in_turn-requires : goal.inverse_in_turn-requires
inverse_in_turn-requires c = (c.inverses_found-found.ensures.0, (search rules, c.inverses_found-found.ensures.1))
