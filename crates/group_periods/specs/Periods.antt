-- This file defines periods: in a factor by walking the powers, in a product by least common multiples. Document 01: "`period` of the identity is 1".
use Rattle.std.specs.Prelude.{ℕ, zero, suc, ◌+◌, ◌/◌, ◌%◌, List, [], ◌∷◌, eqb}
use Rattle.egg.specs.declared.Factor.{Factor}
use Rattle.egg.specs.Answers.{Counted, Reached}
use Rattle.egg.specs.Refusals.{numbered}
use Rattle.std.specs.Prelude.{Ok, Err}
use Rattle.egg.specs.Table.{pick}
use Rattle.egg.specs.Factor.{stretch}
use Rattle.factor_questions.specs.Walks.{compose_in}
use Rattle.theory_radix.specs.Divisors.{lcm}
use Rattle.group_handles.specs.Counts.{on_counted, on_element}

-- Walks the powers of a from x on, which is the k-th, and answers the number of the first that is the identity, among `left` of them. Else it is 17:
-- "none of the first N powers in a period walk is the identity".
unfoldable pub period_from : (left : ℕ) (op : ℕ → ℕ → Reached) (a x k : ℕ) → Counted
period_from zero op a x k = Err (numbered 17 0 0 0)
period_from (suc left) op a x k = pick (eqb x 0) (Ok k) (on_element (op x a) (λ y. period_from left op a y (k + 1)))

-- The period of a in the factor h, by its own compose.
abbrev pub period_of : List ℕ → Factor → ℕ → Counted
period_of t h a = period_from h.elements (compose_in (stretch t h) h.generators h.elements) a a 1

-- The period in a product is the least common multiple of the periods in the factors; of no factors it is 1.
unfoldable pub periods : List ℕ → List Factor → ℕ → Counted
periods t [] a = Ok 1
periods t (h ∷ hs) a =
    on_counted (period_of t h (a % h.elements)) (λ p. on_counted (periods t hs (a / h.elements)) (λ q. Ok (lcm p q)))
