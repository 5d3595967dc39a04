-- The tests that come before a question about a factor is answered, on every input, altered or not. Document 01: "Calls on handles check 17 in the handle, then
-- 14, then 15, then 1 to 4, then 17 in what they read"; 14, "an element, generator or factor argument out of range", has its "position among these from 0".
use Rattle.std.specs.Prelude.{ℕ, ◌≤◌, ◌<◌, ◌≡◌, ◌↔◌, ◌⊎◌, Bool, true, false, List, [], ◌∷◌, length, get_or}
use Rattle.egg.specs.declared.Factor.{Factor}
use Rattle.egg.specs.declared.GroupElementId.{GroupElementId}
use Rattle.egg.specs.declared.GeneratorId.{GeneratorId}
use Rattle.egg.specs.Scan.{and_then}
use Rattle.egg.specs.Pairs.{orders_right}
use Rattle.egg.specs.Factor.{Paper, verdict_paper, reached_paper, counted_paper, fits_in, stretch, read_step, step_answer}
use Rattle.factor_questions.specs.Walks.{inverse_in, compose_in, conjugate_in}
use Rattle.factor_words.specs.Words.{length_in, write_in}
use Rattle.factor_relations.specs.Relations.{relations}
use Rattle.factor.specs.Questions.{compose_answer, inverse_answer, conjugate_answer, count_answer, generator_answer, length_answer, write_answer}
use Rattle.factor.specs.Relations.{check_answer}
use Rattle.factor_laws.specs.Papers.{value_paper}
use Rattle.promises_refusals.specs.Firsts.{FirstOf}
use Rattle.promises_refusals.specs.Papers.{paper}

-- An argument, and what it has to be below.
pub record Argument : Type 0 where
  pub value : ℕ
  pub limit : ℕ

abbrev pub below : ℕ → ℕ → Argument
below v l = record { value = v; limit = l }

-- The argument at this position is out of range.
abbrev pub Outside : List Argument → ℕ → Type 0
Outside l i = (get_or l i (below 0 1)).limit ≤ (get_or l i (below 0 1)).value

-- All of them are in range.
abbrev pub AllInside : List Argument → Type 0
AllInside l = (i : ℕ) → i < length l → ¬ (Outside l i)

-- What a question is answered with: 17 where its handle does not fit; then 14 with the position of the first argument out of range; and else what is answered
-- from the factor's stretch, which is `inside`.
pub data Asked (fits : Bool) (l : List Argument) (inside : Paper) : Paper → Type 0 where
  no_handle : fits ≡ false → Asked fits l inside (paper 17 0 0 0)
  out_of_range : {k : ℕ} → fits ≡ true → FirstOf (length l) (Outside l) k → Asked fits l inside (paper 14 k 0 0)
  in_range : fits ≡ true → AllInside l → Asked fits l inside inside

-- The answer is this exactly when. So 17 is given exactly when the handle does not fit, or where it does and all arguments are in range, for what is read of the
-- stretch; and 14 exactly when the handle fits and there is an argument out of range, with the first one's position.
pub record Admitted (fits : Bool) (l : List Argument) (answer inside : Paper) : Type 0 where
  pub answers : (p : Paper) → answer ≡ p ↔ Asked fits l inside p
  pub handle : (a b c : ℕ)
      → answer ≡ paper 17 a b c
      ↔ (((fits ≡ false) × ((a ≡ 0) × ((b ≡ 0) × (c ≡ 0)))) ⊎ ((fits ≡ true) × (AllInside l × (inside ≡ paper 17 a b c))))
  pub argument : (a b c : ℕ) → answer ≡ paper 14 a b c ↔ ((fits ≡ true) × (FirstOf (length l) (Outside l) a × ((b ≡ 0) × (c ≡ 0))))

-- Every question about a factor, with its arguments in their order. The number of a factor's elements and the check against orders have none, so that 14 never
-- comes.
pub record QuestionsAsked (t : List ℕ) (f : Factor) : Type 0 where
  pub steps : (e : GroupElementId) (g : GeneratorId)
      → Admitted (fits_in (length t) f) (below e.0 f.elements ∷ below g.0 f.generators ∷ []) (reached_paper (step_answer t f e g))
      (reached_paper (read_step (stretch t f) f.generators f.elements e.0 g.0))
  pub generators : (g : GeneratorId)
      → Admitted (fits_in (length t) f) (below g.0 f.generators ∷ []) (reached_paper (generator_answer t f g))
      (reached_paper (read_step (stretch t f) f.generators f.elements 0 g.0))
  pub counts : Admitted (fits_in (length t) f) [] (counted_paper (count_answer t f)) (value_paper f.elements)
  pub composes : (a b : GroupElementId)
      → Admitted (fits_in (length t) f) (below a.0 f.elements ∷ below b.0 f.elements ∷ []) (reached_paper (compose_answer t f a b))
      (reached_paper (compose_in (stretch t f) f.generators f.elements a.0 b.0))
  pub inverts : (a : GroupElementId)
      → Admitted (fits_in (length t) f) (below a.0 f.elements ∷ []) (reached_paper (inverse_answer t f a))
      (reached_paper (inverse_in (stretch t f) f.generators f.elements a.0))
  pub conjugates : (a b : GroupElementId)
      → Admitted (fits_in (length t) f) (below a.0 f.elements ∷ below b.0 f.elements ∷ []) (reached_paper (conjugate_answer t f a b))
      (reached_paper (conjugate_in (stretch t f) f.generators f.elements a.0 b.0))
  pub lengths : (e : GroupElementId)
      → Admitted (fits_in (length t) f) (below e.0 f.elements ∷ []) (counted_paper (length_answer t f e))
      (counted_paper (length_in (stretch t f) f.generators e.0))
  pub writes : (e : GroupElementId) (size : ℕ)
      → Admitted (fits_in (length t) f) (below e.0 f.elements ∷ []) (counted_paper (write_answer t f e size))
      (counted_paper (write_in (stretch t f) f.generators f.elements e.0 size))
  pub checks : (o : List ℕ)
      → Admitted (fits_in (length t) f) [] (verdict_paper (check_answer t f o))
      (verdict_paper (and_then (orders_right o f.generators) (relations (stretch t f) f.generators f.elements o)))
