-- By which numbers the questions about a factor may be refused, on every input: whatever the handle, the buffer and the arguments are. Document 01:
-- "Calls on handles check 17 in the handle, then 14, then 15, then 1 to 4, then 17 in what they read (13 or 17 as met)."
use Rattle.std.specs.Prelude.{ℕ, ◌≡◌, List, [], ◌∷◌, length}
use Rattle.egg.specs.declared.Refusal.{Refusal}
use Rattle.egg.specs.declared.Factor.{Factor}
use Rattle.egg.specs.declared.GroupElementId.{GroupElementId}
use Rattle.egg.specs.declared.GeneratorId.{GeneratorId}
use Rattle.egg.specs.Answers.{Counted, Reached, Verdict}
use Rattle.std.specs.Prelude.{Err}
use Rattle.egg.specs.Factor.{step_answer}
use Rattle.factor.specs.Questions.{compose_answer, inverse_answer, conjugate_answer, count_answer, generator_answer, length_answer}
use Rattle.factor.specs.Questions.{walk_answer, write_answer, written, word_part}
use Rattle.factor.specs.Relations.{check_answer}
use Rattle.build_checks_laws.specs.Numbers.{RefusalIn}

-- If the check is refused, then by one of the numbers of l.
pub record VerdictIn (l : List ℕ) (v : Verdict) : Type 0 where
  pub of : (r : Refusal) → v ≡ Err r → RefusalIn l r

-- The same of an answer that is an element.
pub record ReachedIn (l : List ℕ) (x : Reached) : Type 0 where
  pub of : (r : Refusal) → x ≡ Err r → RefusalIn l r

-- The same of an answer that is a count.
pub record CountedIn (l : List ℕ) (x : Counted) : Type 0 where
  pub of : (r : Refusal) → x ≡ Err r → RefusalIn l r

-- Each question is answered, or refused by one of the numbers that stand here.
pub record Refuses (t : List ℕ) (f : Factor) : Type 0 where
  pub steps : (e : GroupElementId) (g : GeneratorId) → ReachedIn (14 ∷ 17 ∷ []) (step_answer t f e g)
  pub walks : (e : GroupElementId) (w : List ℕ) → ReachedIn (14 ∷ 17 ∷ []) (walk_answer t f e w)
  pub generators : (g : GeneratorId) → ReachedIn (14 ∷ 17 ∷ []) (generator_answer t f g)
  pub counts : CountedIn (17 ∷ []) (count_answer t f)
  pub composes : (a b : GroupElementId) → ReachedIn (14 ∷ 17 ∷ []) (compose_answer t f a b)
  pub inverts : (a : GroupElementId) → ReachedIn (14 ∷ 17 ∷ []) (inverse_answer t f a)
  pub conjugates : (a b : GroupElementId) → ReachedIn (14 ∷ 17 ∷ []) (conjugate_answer t f a b)
  pub lengths : (e : GroupElementId) → CountedIn (14 ∷ 17 ∷ []) (length_answer t f e)
  pub writes : (e : GroupElementId) (size : ℕ) → CountedIn (4 ∷ 14 ∷ 17 ∷ []) (write_answer t f e size)
  -- "A refused question writes nothing"; and of the part that is handed back: "refused: the empty start".
  pub nothing_written : (e : GroupElementId) (out : List ℕ) {r : Refusal} → write_answer t f e (length out) ≡ Err r → written t f e out ≡ out
  pub nothing_handed : (e : GroupElementId) (out : List ℕ) {r : Refusal} → write_answer t f e (length out) ≡ Err r → word_part t f e out ≡ []
  pub checks : (o : List ℕ) → VerdictIn (2 ∷ 3 ∷ 13 ∷ 17 ∷ []) (check_answer t f o)
