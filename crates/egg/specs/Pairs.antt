-- The pairs of generators in document 01's order, "(0,1),(0,2),(1,2),(0,3).. ", and the orders given for them.
use Rattle.std.specs.Prelude.{ℕ, ◌*◌, ◌-◌, ◌/◌, List, [], ◌∷◌, length, get_or, eqb, leb}
use Rattle.egg.specs.Answers.{Verdict, fine}
use Rattle.egg.specs.Table.{pick}
use Rattle.egg.specs.Scan.{refused_of, scan}

-- The pairs (a, b) in that order, each as 8a + b; there are 28 for 8 generators.
abbrev pub pairs : List ℕ
pairs = 1 ∷ 2 ∷ 10 ∷ 3 ∷ 11 ∷ 19 ∷ 4 ∷ 12 ∷ 20 ∷ 28 ∷ 5 ∷ 13 ∷ 21 ∷ 29 ∷ 37 ∷ 6 ∷ 14 ∷ 22 ∷ 30 ∷ 38 ∷ 46 ∷ 7 ∷ 15 ∷ 23 ∷ 31 ∷ 39 ∷ 47 ∷ 55 ∷ []

-- The pair at place k of that order.
unfoldable pub pair_code : ℕ → ℕ
pair_code k = get_or pairs k 0

-- How many pairs n generators have.
unfoldable pub pair_count : ℕ → ℕ
pair_count n = n * (n - 1) / 2

-- Refusal 3, "an order outside 2..32,767", with its index in the list, where the order at k is such a one.
abbrev pub order_at : List ℕ → ℕ → Verdict
order_at orders k = pick (leb 2 (get_or orders k 0)) (pick (leb (get_or orders k 0) 32767) fine (refused_of 3 k 0 0)) (refused_of 3 k 0 0)

-- Refusal 2, "order list not n(n-1)/2 long"; else 3 for the first order that is wrong.
unfoldable pub orders_right : List ℕ → ℕ → Verdict
orders_right orders n = pick (eqb (length orders) (pair_count n)) (scan (length orders) (λ k. order_at orders k) 0) (refused_of 2 0 0 0)
