-- The answers about an accepted factor as document 01 sets them out. "When an answer is an enum, a definition sets out this paper's number and values for each
-- of its cases. The promises use that definition." It is `verdict_paper`, `reached_paper` and `counted_paper` of egg.
use Rattle.std.specs.Prelude.{ℕ, ◌≤◌, ◌<◌, ◌≡◌, ◌↔◌, List, length}
use Rattle.egg.specs.declared.Factor.{Factor}
use Rattle.egg.specs.Answers.{fine}
use Rattle.egg.specs.Pairs.{orders_right}
use Rattle.egg.specs.Factor.{Paper, verdict_paper, reached_paper, counted_paper, step_answer}
use Rattle.factor.specs.Questions.{compose_answer, inverse_answer, conjugate_answer, count_answer, generator_answer, length_answer, write_answer}
use Rattle.factor.specs.Relations.{check_answer}
use Rattle.theory.specs.Table.{generator}
use Rattle.theory.specs.Group.{GroupOn, RightSteps, conjugate}
use Rattle.theory.specs.Presentation.{order_of, Holds}
use Rattle.factor_laws.specs.Accepted.{factor_step, factor_word}

-- The paper of an answer that is no refusal and has this value, an element or a count. A verdict has none, and 0 stands for it.
abbrev pub value_paper : ℕ → Paper
value_paper k = record { number = 0; a = k; b = 0; c = 0 }

-- Every answer about the factor, on paper, is the group's whose product is op and whose inverse is inv.
pub record PapersOf (t : List ℕ) (f : Factor) (op : ℕ → ℕ → ℕ) (inv : ℕ → ℕ) : Type 0 where
  pub group : GroupOn f.elements op inv
  pub right_steps : RightSteps f.generators f.elements (factor_step t f) op
  pub counts : counted_paper (count_answer t f) ≡ value_paper f.elements
  pub generators : {g : ℕ} → g < f.generators → reached_paper (generator_answer t f (record { 0 = g })) ≡ value_paper (generator (factor_step t f) g)
  pub steps : {e g : ℕ} → e < f.elements → g < f.generators
      → reached_paper (step_answer t f (record { 0 = e }) (record { 0 = g })) ≡ value_paper (op e (generator (factor_step t f) g))
  pub composes : {a b : ℕ} → a < f.elements → b < f.elements → reached_paper (compose_answer t f (record { 0 = a }) (record { 0 = b })) ≡ value_paper (op a b)
  pub inverts : {a : ℕ} → a < f.elements → reached_paper (inverse_answer t f (record { 0 = a })) ≡ value_paper (inv a)
  pub conjugates : {a b : ℕ} → a < f.elements → b < f.elements
      → reached_paper (conjugate_answer t f (record { 0 = a }) (record { 0 = b })) ≡ value_paper (conjugate op inv a b)
  pub lengths : {e : ℕ} → e < f.elements → counted_paper (length_answer t f (record { 0 = e })) ≡ value_paper (length (factor_word t f e))
  pub writes : {e : ℕ} (size : ℕ) → e < f.elements → length (factor_word t f e) ≤ size
      → counted_paper (write_answer t f (record { 0 = e }) size) ≡ value_paper (length (factor_word t f e))
  pub checks : (o : List ℕ) → orders_right o f.generators ≡ fine
      → verdict_paper (check_answer t f o) ≡ value_paper 0 ↔ Holds f.generators f.elements (order_of o) (factor_step t f)
