-- This file states the answers about a product of accepted factors as document 01 sets them out: "a definition sets out this paper's number and
-- values for each of its cases. The promises use that definition." It is `verdict_paper`, `reached_paper` and `counted_paper` of egg; a product and its
-- verdict have theirs here.
use Rattle.std.specs.Prelude.{ℕ, ◌≤◌, ◌<◌, ◌≡◌, ◌↔◌, true, false, List, ◌++◌, length, get_or, ℤ, Ok}
use Rattle.egg.specs.Answers.{answer_of}
use Rattle.egg.specs.Factor.{Paper, verdict_paper, reached_paper, counted_paper}
use Rattle.theory.specs.Table.{generator}
use Rattle.theory.specs.Group.{GroupOn, RightSteps, conjugate, integer_power, Period}
use Rattle.factor_laws.specs.Papers.{value_paper}
use Rattle.theory_radix.specs.Radix.{split, inject}
use Rattle.theory_products.specs.Product.{Part}
use Rattle.group_handles.specs.declared.Group.{Group}
use Rattle.group_handles.specs.Answers.{Grouped}
use Rattle.group_handles.specs.Handles.{handles, sizes, elements_of, all_fit, group_of, joins}
use Rattle.group.specs.Questions.{count_answer, generators_answer, generator_answer, step_answer, project_answer, inject_answer, split_answer, join_answer}
use Rattle.group.specs.Questions.{compose_answer, inverse_answer, conjugate_answer, powi_answer, period_answer, length_answer, write_answer}

-- What `product` answers: 0, or the refusal's number and places.
abbrev pub grouped_paper : Grouped → Paper
grouped_paper made = verdict_paper (answer_of made)

-- A refusal with no places, on paper.
abbrev pub refused_paper : ℕ → Paper
refused_paper k = record { number = k; a = 0; b = 0; c = 0 }

-- Two products together are within document 01's limits: "factors per product 0 to 8; product elements at most 4,294,967,295".
pub record Together (a b : Group) : Type 0 where
  pub first : a.count ≤ 8
  pub second : b.count ≤ 8
  pub factors : length (handles a ++ handles b) ≤ 8
  pub elements : elements_of (handles a ++ handles b) ≤ 4294967295

-- Which number `product` answers, on every input, and that it is given only then: 17 where a handle of either does not fit, then 15 where both together are
-- beyond the limits, and else none, with the product of all the factors.
pub record ProductPaper (len : ℕ) (a b : Group) : Type 0 where
  pub handle : (grouped_paper (joins len a b) ≡ refused_paper 17) ↔ (all_fit len (handles a ++ handles b) ≡ false)
  pub large : (grouped_paper (joins len a b) ≡ refused_paper 15) ↔ ((all_fit len (handles a ++ handles b) ≡ true) × (Together a b → ⊥))
  pub fine : (grouped_paper (joins len a b) ≡ value_paper 0) ↔ ((all_fit len (handles a ++ handles b) ≡ true) × Together a b)
  pub made : grouped_paper (joins len a b) ≡ value_paper 0 → joins len a b ≡ Ok (group_of (handles a ++ handles b))

-- Every answer about the product, on paper, is the direct product's own.
pub record ProductPapers (t : List ℕ) (g : Group) (P : Part) : Type 0 where
  pub group : GroupOn P.elements P.op P.inv
  pub right_steps : RightSteps P.generators P.elements P.step P.op
  pub counts : counted_paper (count_answer t g) ≡ value_paper P.elements
  pub generator_counts : counted_paper (generators_answer t g) ≡ value_paper P.generators
  pub generators : {x : ℕ} → x < P.generators → reached_paper (generator_answer t g (record { 0 = x })) ≡ value_paper (generator P.step x)
  pub steps : {e x : ℕ} → e < P.elements → x < P.generators
      → reached_paper (step_answer t g (record { 0 = e }) (record { 0 = x })) ≡ value_paper (P.op e (generator P.step x))
  pub composes : {a b : ℕ} → a < P.elements → b < P.elements → reached_paper (compose_answer t g (record { 0 = a }) (record { 0 = b })) ≡ value_paper (P.op a b)
  pub inverts : {a : ℕ} → a < P.elements → reached_paper (inverse_answer t g (record { 0 = a })) ≡ value_paper (P.inv a)
  pub conjugates : {a b : ℕ} → a < P.elements → b < P.elements
      → reached_paper (conjugate_answer t g (record { 0 = a }) (record { 0 = b })) ≡ value_paper (conjugate P.op P.inv a b)
  pub powers : {a : ℕ} → a < P.elements → (z : ℤ) → reached_paper (powi_answer t g (record { 0 = a }) z) ≡ value_paper (integer_power P.op P.inv a z)
  pub periods : {a : ℕ} → a < P.elements → (k : ℕ) × (counted_paper (period_answer t g (record { 0 = a })) ≡ value_paper k) × Period P.op a k
  pub splits : {e : ℕ} (size : ℕ) → e < P.elements → length (handles g) ≤ size → counted_paper (split_answer t g (record { 0 = e }) size) ≡ value_paper (length (handles g))
  pub joins : {e : ℕ} → e < P.elements → reached_paper (join_answer t g (split (sizes (handles g)) e)) ≡ value_paper e
  pub projects : {f e : ℕ} → f < length (handles g) → e < P.elements
      → reached_paper (project_answer t g f (record { 0 = e })) ≡ value_paper (get_or (split (sizes (handles g)) e) f 0)
  pub injects : {f x : ℕ} → f < length (handles g) → x < get_or (sizes (handles g)) f 1
      → reached_paper (inject_answer t g f (record { 0 = x })) ≡ value_paper (inject (sizes (handles g)) f x)
  pub lengths : {e : ℕ} → e < P.elements → counted_paper (length_answer t g (record { 0 = e })) ≡ value_paper (length (P.word e))
  pub writes : {e : ℕ} (size : ℕ) → e < P.elements → length (P.word e) ≤ size
      → counted_paper (write_answer t g (record { 0 = e }) size) ≡ value_paper (length (P.word e))
