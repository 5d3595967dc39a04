-- This file states demand 3, and what an accepted enumeration gives.
use Rattle.std.specs.Prelude.{ℕ, ◌+◌, ◌*◌, ◌≤◌, ◌≡◌, ◌↔◌, true, List, ◌++◌, length, get_or, replicate}
use Rattle.egg.specs.declared.Factor.{Factor}
use Rattle.egg.specs.Answers.{fine}
use Rattle.egg.specs.Pairs.{orders_right}
use Rattle.egg.specs.Factor.{stretch}
use Rattle.build_lending.specs.Lending.{table_need, work_need, lent_right, within}
use Rattle.factor.specs.Questions.{compose_answer}
use Rattle.factor_relations.specs.Relations.{relations}
use Rattle.theory.specs.Words.{Word, walk}
use Rattle.theory.specs.Presentation.{order_of, Equiv, Holds}
use Rattle.factor_laws.specs.Accepted.{Accepted, factor_step, reach}

-- The arguments of an enumeration are right, so that its build starts: 1, "more than 8 generators", 2 and 3, an order for each pair and within 2..32,767, and 4,
-- "room 0 or above 65,535, or a lent buffer short", have passed.
pub record EnumerationRight (table : List ℕ) (start : ℕ) (work orders : List ℕ) (n room : ℕ) : Type 0 where
  pub generators : n ≤ 8
  pub right : orders_right orders n ≡ fine
  pub lent : lent_right (length table) start (length work) room n ≡ true

-- The element that a word reaches from the identity, by the steps of the factor.
abbrev pub reaches : List ℕ → Factor → List ℕ → ℕ
reaches t f u = walk (factor_step t f) 0 u

-- Demand 3: "Two generator words lead from the identity to the same element number exactly when one can be turned into the other by inserting or
-- striking out a doubled generator or a full pair relation. Composing the numbers that two words reach gives the number that the joined word
-- reaches."
pub record Demand3 (orders : List ℕ) (f : Factor) (t : List ℕ) : Type 0 where
  pub presented : {u v : List ℕ} → Word f.generators u → Word f.generators v
      → reaches t f u ≡ reaches t f v ↔ Equiv f.generators (order_of orders) u v
  pub joined : {u v : List ℕ} → Word f.generators u → Word f.generators v
      → compose_answer t f (record { 0 = reaches t f u }) (record { 0 = reaches t f v }) ≡ reach (reaches t f (u ++ v))

-- What an accepted enumeration gives: the handle of the given stretch; an accepted factor, so that all that is promised of one holds of it; demand 3;
-- its relations hold at every element; zeros in its rows beyond the last element and in the needed work; everything else in both buffers as it was.
pub record Enumerated (table : List ℕ) (start : ℕ) (work orders : List ℕ) (n room : ℕ) (f : Factor) (t w : List ℕ) : Type 0 where
  pub handle : f ≡ record { start = start; room = room; generators = n; elements = f.elements }
  pub accepted : Accepted t f
  pub demand_3 : Demand3 orders f t
  pub holds : Holds n f.elements (order_of orders) (factor_step t f)
  pub all_related : relations (stretch t f) n f.elements orders ≡ fine
  pub beyond : {i : ℕ} → f.elements * (2 * n + 4) ≤ i → get_or (stretch t f) i 0 ≡ 0
  pub table_kept : t ≡ within table start (start + table_need n room) (stretch t f)
  pub work_zero : w ≡ within work 0 (work_need n room) (replicate (work_need n room) 0)
