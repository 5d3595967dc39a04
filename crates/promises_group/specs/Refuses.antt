-- This file states by which numbers the questions about a product are refused, on every input: whatever the handles, the count, the buffer and the
-- arguments are. Document 01: "Calls on handles check 17 in the handle, then 14, then 15, then 1 to 4, then 17 in what they read". And "a refused
-- question writes nothing".
use Rattle.std.specs.Prelude.{ℕ, ◌≡◌, List, [], ◌∷◌, length, ℤ}
use Rattle.egg.specs.declared.Refusal.{Refusal}
use Rattle.egg.specs.Answers.{answer_of}
use Rattle.egg.specs.declared.GroupElementId.{GroupElementId}
use Rattle.egg.specs.declared.GeneratorId.{GeneratorId}
use Rattle.std.specs.Prelude.{Err}
use Rattle.factor_laws.specs.Refuses.{ReachedIn, CountedIn, VerdictIn}
use Rattle.group_handles.specs.declared.Group.{Group}
use Rattle.group_handles.specs.Handles.{joins}
use Rattle.group.specs.Questions.{count_answer, generators_answer, generator_answer, step_answer, walk_answer, project_answer, inject_answer, split_answer, split_leaves, join_answer}
use Rattle.group.specs.Questions.{compose_answer, inverse_answer, conjugate_answer, powi_answer, period_answer, length_answer, write_answer, written, word_part}

-- Each call of the product g, with the only numbers by which it is ever refused.
pub record ProductRefuses (t : List ℕ) (g : Group) : Type 0 where
  pub makes : (b : Group) → VerdictIn (15 ∷ 17 ∷ []) (answer_of (joins (length t) g b))
  -- These have no argument that 14 could be given for.
  pub counts : CountedIn (15 ∷ 17 ∷ []) (count_answer t g)
  pub generator_counts : CountedIn (15 ∷ 17 ∷ []) (generators_answer t g)
  pub generators : (x : GeneratorId) → ReachedIn (14 ∷ 15 ∷ 17 ∷ []) (generator_answer t g x)
  pub steps : (e : GroupElementId) (x : GeneratorId) → ReachedIn (14 ∷ 15 ∷ 17 ∷ []) (step_answer t g e x)
  pub walks : (e : GroupElementId) (w : List ℕ) → ReachedIn (14 ∷ 15 ∷ 17 ∷ []) (walk_answer t g e w)
  pub projects : (f : ℕ) (e : GroupElementId) → ReachedIn (14 ∷ 15 ∷ 17 ∷ []) (project_answer t g f e)
  pub injects : (f : ℕ) (x : GroupElementId) → ReachedIn (14 ∷ 15 ∷ 17 ∷ []) (inject_answer t g f x)
  pub splits : (e : GroupElementId) (size : ℕ) → CountedIn (4 ∷ 14 ∷ 15 ∷ 17 ∷ []) (split_answer t g e size)
  pub joined : (digits : List ℕ) → ReachedIn (4 ∷ 14 ∷ 15 ∷ 17 ∷ []) (join_answer t g digits)
  pub composes : (a b : GroupElementId) → ReachedIn (14 ∷ 15 ∷ 17 ∷ []) (compose_answer t g a b)
  pub inverts : (a : GroupElementId) → ReachedIn (14 ∷ 15 ∷ 17 ∷ []) (inverse_answer t g a)
  pub conjugates : (a b : GroupElementId) → ReachedIn (14 ∷ 15 ∷ 17 ∷ []) (conjugate_answer t g a b)
  pub powers : (a : GroupElementId) (i : ℤ) → ReachedIn (14 ∷ 15 ∷ 17 ∷ []) (powi_answer t g a i)
  pub periods : (a : GroupElementId) → CountedIn (14 ∷ 15 ∷ 17 ∷ []) (period_answer t g a)
  pub lengths : (e : GroupElementId) → CountedIn (14 ∷ 15 ∷ 17 ∷ []) (length_answer t g e)
  pub writes : (e : GroupElementId) (size : ℕ) → CountedIn (4 ∷ 14 ∷ 15 ∷ 17 ∷ []) (write_answer t g e size)
  -- What the lent list and the byte buffer hold after a refusal.
  pub split_untouched : (e : GroupElementId) (out : List ℕ) (r : Refusal) → split_answer t g e (length out) ≡ Err r → split_leaves t g e out ≡ out
  pub write_untouched : (e : GroupElementId) (out : List ℕ) (r : Refusal) → write_answer t g e (length out) ≡ Err r → written t g e out ≡ out
  -- And of the word that is chosen: "refused: the empty start, the number by a second call".
  pub nothing_handed : (e : GroupElementId) (out : List ℕ) (r : Refusal) → write_answer t g e (length out) ≡ Err r → word_part t g e out ≡ []
