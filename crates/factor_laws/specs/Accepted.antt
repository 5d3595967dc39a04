-- What an accepted factor is, and what the answers about it say.
use Rattle.std.specs.Prelude.{ℕ, ◌≤◌, ◌<◌, ◌≡◌, ◌↔◌, true, List, ◌++◌, length, drop}
use Rattle.egg.specs.declared.Refusal.{Refusal}
use Rattle.egg.specs.declared.Factor.{Factor}
use Rattle.egg.specs.Answers.{Reached, fine}
use Rattle.std.specs.Prelude.{Ok, Err}
use Rattle.egg.specs.Table.{step_of, back_of}
use Rattle.egg.specs.Pairs.{orders_right}
use Rattle.egg.specs.Factor.{fits_in, stretch, step_answer}
use Rattle.build_word_cells.specs.Hops.{Hops}
use Rattle.factor.specs.Questions.{compose_answer, inverse_answer, conjugate_answer, count_answer, generator_answer, length_answer}
use Rattle.factor.specs.Questions.{write_answer, written, word_part}
use Rattle.factor.specs.Relations.{check_answer}
use Rattle.theory.specs.Table.{generator}
use Rattle.theory.specs.Words.{walk}
use Rattle.theory.specs.Group.{GroupOn, RightSteps, conjugate}
use Rattle.theory.specs.Presentation.{order_of, Holds}
use Rattle.build_checks_laws.specs.Stored.{word_of}
use Rattle.build_checks_laws.specs.Sound.{Sound, Ruled}
use Rattle.factor_relations_laws.specs.Fails.{Fails}

-- A factor that was accepted, whichever call made it: its handle fits the buffer, its stretch holds a table that the checks let through, and that
-- table follows the numbering rule, with the parent and last generator of each element's first appearance. In each row the cell of the last generator
-- also has the letters before it, so that a word is read five letters at a time. Document 01: "its handle and its needed stretch of table come
-- unaltered from the call that accepted it".
pub record Accepted (t : List ℕ) (f : Factor) : Type 0 where
  pub fits : fits_in (length t) f ≡ true
  pub sound : Sound (stretch t f) f.generators f.elements
  pub ruled : Ruled (stretch t f) f.generators f.elements
  pub hops : Hops (stretch t f) f.generators f.elements

-- The step that the factor's stretch holds.
abbrev pub factor_step : List ℕ → Factor → ℕ → ℕ → ℕ
factor_step t f = step_of (stretch t f) f.generators

-- The step back that the factor's stretch holds.
abbrev pub factor_back : List ℕ → Factor → ℕ → ℕ → ℕ
factor_back t f = back_of (stretch t f) f.generators

-- The recorded word that the factor's stretch holds.
abbrev pub factor_word : List ℕ → Factor → ℕ → List ℕ
factor_word t f = word_of (stretch t f) f.generators

-- The answer that an element was reached.
abbrev pub reach : ℕ → Reached
reach e = Ok (record { 0 = e })

-- Every answer about the factor is the group's whose product is op and whose inverse is inv.
pub record AnswersOf (t : List ℕ) (f : Factor) (op : ℕ → ℕ → ℕ) (inv : ℕ → ℕ) : Type 0 where
  pub group : GroupOn f.elements op inv
  pub right_steps : RightSteps f.generators f.elements (factor_step t f) op
  pub counts : count_answer t f ≡ Ok f.elements
  pub generators : {g : ℕ} → g < f.generators → generator_answer t f (record { 0 = g }) ≡ reach (generator (factor_step t f) g)
  pub steps : {e g : ℕ} → e < f.elements → g < f.generators
      → step_answer t f (record { 0 = e }) (record { 0 = g }) ≡ reach (op e (generator (factor_step t f) g))
  pub composes : {a b : ℕ} → a < f.elements → b < f.elements → compose_answer t f (record { 0 = a }) (record { 0 = b }) ≡ reach (op a b)
  -- "`compose` walks the word of the second from the first": whichever way the answer is found, it is where the recorded word leads.
  pub walks : {a b : ℕ} → a < f.elements → b < f.elements
      → compose_answer t f (record { 0 = a }) (record { 0 = b }) ≡ reach (walk (factor_step t f) a (factor_word t f b))
  pub inverts : {a : ℕ} → a < f.elements → inverse_answer t f (record { 0 = a }) ≡ reach (inv a)
  pub conjugates : {a b : ℕ} → a < f.elements → b < f.elements
      → conjugate_answer t f (record { 0 = a }) (record { 0 = b }) ≡ reach (conjugate op inv a b)
  -- The word that is written, to the start of a buffer that is long enough, is the recorded one; it leads from the identity to its element.
  pub lengths : {e : ℕ} → e < f.elements → length_answer t f (record { 0 = e }) ≡ Ok (length (factor_word t f e))
  pub writes : {e : ℕ} (size : ℕ) → e < f.elements → length (factor_word t f e) ≤ size
      → write_answer t f (record { 0 = e }) size ≡ Ok (length (factor_word t f e))
  pub leaves : {e : ℕ} (out : List ℕ) → e < f.elements → length (factor_word t f e) ≤ length out
      → written t f (record { 0 = e }) out ≡ factor_word t f e ++ drop (length (factor_word t f e)) out
  pub parts : {e : ℕ} (out : List ℕ) → e < f.elements → length (factor_word t f e) ≤ length out
      → word_part t f (record { 0 = e }) out ≡ factor_word t f e
  pub spells : {e : ℕ} → e < f.elements → walk (factor_step t f) 0 (factor_word t f e) ≡ e
  -- With right orders, the check against them passes just if every relation holds, and any refusal is 13 with a relation that fails at the identity.
  pub checks : (o : List ℕ) → orders_right o f.generators ≡ fine
      → check_answer t f o ≡ fine ↔ Holds f.generators f.elements (order_of o) (factor_step t f)
  pub fails : (o : List ℕ) {r : Refusal} → orders_right o f.generators ≡ fine → check_answer t f o ≡ Err r
      → Fails f.generators (order_of o) (factor_step t f) 0 r
  -- No other group has these right steps.
  pub only_product : {op' : ℕ → ℕ → ℕ} {inv' : ℕ → ℕ} {a b : ℕ} → GroupOn f.elements op' inv'
      → RightSteps f.generators f.elements (factor_step t f) op' → a < f.elements → b < f.elements → op' a b ≡ op a b
  pub only_inverse : {op' : ℕ → ℕ → ℕ} {inv' : ℕ → ℕ} {a : ℕ} → GroupOn f.elements op' inv'
      → RightSteps f.generators f.elements (factor_step t f) op' → a < f.elements → inv' a ≡ inv a
