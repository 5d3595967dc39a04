-- Orders that pass 2 and 3 are at least 2, so that they are exact.
use Prim.Native.Nat.{ℕ, ◌≤◌, ◌<◌}
use mathlib.Core.Path.{◌≡◌}
use mathlib.Core.List.{List}
use Rattle.egg.specs.Answers.{fine}
use Rattle.egg.specs.Pairs.{orders_right}
use Rattle.theory.specs.Presentation.{pair_place, order_of}
use Rattle.theory.proofs.Pairs.{pair_inside}
use Rattle.factor_relations.proofs.Orders.{orders_limits}
use Rattle.factor_relations_laws.proofs.Relators.{orders_long}
use Rattle.theory_coxeter.specs.Tables.{ExactWords}
use Rattle.theory_coxeter.proofs.ExactOrders.{exact_words}

module _ (o : List ℕ) (n : ℕ) (right : orders_right o n ≡ fine) where
  pub right_two : (i j : ℕ) → i < j → j < n → 2 ≤ order_of o i j
  right_two i j hi hj = ((orders_limits o n right).1 (pair_place i j) (rw (orders_long o n right) (pair_inside hi hj))).0

  pub right_exact : ExactWords n (order_of o)
  right_exact = exact_words n (order_of o) right_two
