-- The questions over lists of a product's elements: the single call of `group` at every place.
-- Assumes nothing.
use Rattle.std.specs.Prelude.{ℕ, List, length, get_or, ℤ, pos}
use Rattle.egg.specs.Answers.{Reached}
use Rattle.group_handles.specs.declared.Group.{Group}
use Rattle.group.specs.Questions.{compose_answer, inverse_answer, powi_answer}
use Rattle.lists.specs.Lists.{Answered, lengths_right, over_lists}

-- The single calls at place i.
abbrev pub compose_at : List ℕ → Group → List ℕ → List ℕ → ℕ → Reached
compose_at t g a b i = compose_answer t g (record { 0 = get_or a i 0 }) (record { 0 = get_or b i 0 })

abbrev pub inverse_at : List ℕ → Group → List ℕ → ℕ → Reached
inverse_at t g a i = inverse_answer t g (record { 0 = get_or a i 0 })

abbrev pub powi_at : List ℕ → Group → List ℕ → List ℤ → ℕ → Reached
powi_at t g a exponents i = powi_answer t g (record { 0 = get_or a i 0 }) (get_or exponents i (pos 0))

-- The calls: two lists and the output, and for inverses one and the output.
unfoldable pub compose_each : List ℕ → Group → List ℕ → List ℕ → List ℕ → Answered
compose_each t g a b out = over_lists (lengths_right (length a) (length b) (length out)) (length a) (compose_at t g a b) out

unfoldable pub inverse_each : List ℕ → Group → List ℕ → List ℕ → Answered
inverse_each t g a out = over_lists (lengths_right (length a) (length a) (length out)) (length a) (inverse_at t g a) out

unfoldable pub powi_each : List ℕ → Group → List ℕ → List ℤ → List ℕ → Answered
powi_each t g a exponents out = over_lists (lengths_right (length a) (length exponents) (length out)) (length a) (powi_at t g a exponents) out
