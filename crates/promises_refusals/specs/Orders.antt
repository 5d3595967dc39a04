-- This file states what is answered for pair orders: by the check of an accepted factor, 2, 3 and 13 in the words of the theory, with their places;
-- and by an enumeration whose run does not start, 1 to 4.
use Rattle.std.specs.Prelude.{ℕ, ◌≤◌, ◌<◌, ◌≡◌, List, length, get_or}
use Rattle.egg.specs.declared.Refusal.{Refusal}
use Rattle.egg.specs.Factor.{Paper, refusal_paper}
use Rattle.egg.specs.Answers.{numbered}
use Rattle.theory.specs.Words.{walk}
use Rattle.theory.specs.Presentation.{pairs_below, pair_place, order_of, alternate, Holds}
use Rattle.promises_refusals.specs.Firsts.{FirstOf}
use Rattle.promises_refusals.specs.Papers.{paper, EnoughLent}

-- The k-th order is within "pair orders 2 to 32,767".
abbrev pub OrderRight : List ℕ → ℕ → Type 0
OrderRight o k = (2 ≤ get_or o k 0) × (get_or o k 0 ≤ 32767)

-- There is an order for each pair, and each is within these limits.
pub record OrdersRight (o : List ℕ) (n : ℕ) : Type 0 where
  pub long : length o ≡ pairs_below n
  pub within : {k : ℕ} → k < length o → OrderRight o k

-- The list is refused: by 2, "order list not n(n-1)/2 long"; else by 3, "an order outside 2..32,767", with the index of the first.
pub data OrdersFault (o : List ℕ) (n : ℕ) : Refusal → Type 0 where
  wrong_length : ¬ (length o ≡ pairs_below n) → OrdersFault o n (numbered 2 0 0 0)
  wrong_order : {k : ℕ} → length o ≡ pairs_below n → FirstOf (length o) (λ i. ¬ (OrderRight o i)) k → OrdersFault o n (numbered 3 k 0 0)

-- The pair (i, j) as often as its order says does not lead from the identity back to it, and each pair before it in the list does.
pub record FirstPair (n : ℕ) (step : ℕ → ℕ → ℕ) (o : List ℕ) (i j : ℕ) : Type 0 where
  pub ordered : i < j
  pub inside : j < n
  pub broken : ¬ (walk step 0 (alternate i j (order_of o i j)) ≡ 0)
  pub before : {a b : ℕ} → a < b → b < n → pair_place a b < pair_place i j → walk step 0 (alternate a b (order_of o a b)) ≡ 0

-- A relation is refused by 13, "a relation fails": "For each element it tests each generator doubled, then each pair's 2m steps in list order." On an
-- accepted factor what fails anywhere fails at the identity, so the element is 0: the first generator that, doubled, does not lead back; or, where
-- all do, the first such pair.
pub data RelationFault (n : ℕ) (step : ℕ → ℕ → ℕ) (o : List ℕ) : Refusal → Type 0 where
  doubled : {g : ℕ} → FirstOf n (λ x. ¬ (step (step 0 x) x ≡ 0)) g → RelationFault n step o (numbered 13 0 g g)
  paired : {i j : ℕ} → ((g : ℕ) → g < n → step (step 0 g) g ≡ 0) → FirstPair n step o i j → RelationFault n step o (numbered 13 0 i j)

-- What the check answers on a factor of n generators and N elements with these steps.
pub data CheckPaper (n N : ℕ) (step : ℕ → ℕ → ℕ) (o : List ℕ) : Paper → Type 0 where
  wrong_orders : {r : Refusal} → OrdersFault o n r → CheckPaper n N step o (refusal_paper r)
  fails : {r : Refusal} → OrdersRight o n → RelationFault n step o r → CheckPaper n N step o (refusal_paper r)
  holds : OrdersRight o n → Holds n N (order_of o) step → CheckPaper n N step o (paper 0 0 0 0)

-- The answers of an enumeration whose arguments are not right. "The first that applies, in numeric order .., is given": 1, "more than 8 generators", with the
-- count; 2 or 3; 4, "room 0 or above 65,535, or a lent buffer short".
pub data EnumeratePaper (table : List ℕ) (start : ℕ) (work o : List ℕ) (n room : ℕ) : Paper → Type 0 where
  many : 8 < n → EnumeratePaper table start work o n room (paper 1 n 0 0)
  unordered : {r : Refusal} → n ≤ 8 → OrdersFault o n r → EnumeratePaper table start work o n room (refusal_paper r)
  short : n ≤ 8 → OrdersRight o n → ¬ (EnoughLent table start work n room) → EnumeratePaper table start work o n room (paper 4 0 0 0)
