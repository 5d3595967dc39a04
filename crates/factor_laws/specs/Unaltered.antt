-- A factor whose stretch was left alone. Document 01: "its handle and its needed stretch of table come unaltered from the call that accepted it".
use Rattle.std.specs.Prelude.{ℕ, ◌≡◌, List}
use Rattle.egg.specs.declared.Factor.{Factor}
use Rattle.egg.specs.declared.GroupElementId.{GroupElementId}
use Rattle.egg.specs.declared.GeneratorId.{GeneratorId}
use Rattle.egg.specs.Factor.{stretch, step_answer}
use Rattle.factor.specs.Questions.{compose_answer, inverse_answer, conjugate_answer, count_answer, generator_answer, length_answer}
use Rattle.factor.specs.Questions.{write_answer, written, word_part}
use Rattle.factor.specs.Relations.{check_answer}
use Rattle.factor_laws.specs.Accepted.{Accepted}

-- Of the factor f, accepted in the buffer t, the buffer t' holds the same: it is accepted there too, and every answer about it is the one from t.
pub record Unaltered (t t' : List ℕ) (f : Factor) : Type 0 where
  pub accepted : Accepted t' f
  pub stretches : stretch t' f ≡ stretch t f
  pub steps : (e : GroupElementId) (g : GeneratorId) → step_answer t' f e g ≡ step_answer t f e g
  pub composes : (a b : GroupElementId) → compose_answer t' f a b ≡ compose_answer t f a b
  pub inverts : (a : GroupElementId) → inverse_answer t' f a ≡ inverse_answer t f a
  pub conjugates : (a b : GroupElementId) → conjugate_answer t' f a b ≡ conjugate_answer t f a b
  pub counts : count_answer t' f ≡ count_answer t f
  pub generators : (g : GeneratorId) → generator_answer t' f g ≡ generator_answer t f g
  pub lengths : (e : GroupElementId) → length_answer t' f e ≡ length_answer t f e
  pub writes : (e : GroupElementId) (size : ℕ) → write_answer t' f e size ≡ write_answer t f e size
  pub leaves : (e : GroupElementId) (out : List ℕ) → written t' f e out ≡ written t f e out
  pub parts : (e : GroupElementId) (out : List ℕ) → word_part t' f e out ≡ word_part t f e out
  pub checks : (o : List ℕ) → check_answer t' f o ≡ check_answer t f o
