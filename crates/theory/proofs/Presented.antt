-- The group of a table is the one that the relations present: two words lead to the same element just if they are equal up to the relations.
use mathlib.Core.Path.{◌≡◌, refl, sym, ◌∙◌}
use mathlib.Core.Logic.{◌↔◌}
use mathlib.Core.List.{List, ◌++◌, append-nil, append_assoc}
use Prim.Native.Nat.{ℕ, ◌<◌}
use Rattle.theory.specs.Table.{Table, Columns}
use Rattle.theory.specs.Words.{Word, empty, letter, walk, Spelled}
use Rattle.theory.specs.AnyGroup.{SomeGroup}
use Rattle.theory.specs.Regular.{Check}
use Rattle.theory.specs.Presentation.{double, Equiv, insert, same, turn, join, Holds, Derived}
use Rattle.theory.proofs.Exact.{exact_any}
use Rattle.theory.proofs.Walking.{word_append, word_left, walk_append, walk_closed}
use Rattle.theory.proofs.Relations.{equiv_word, append_right}

-- In a derived table the word of e and a word more is, under the relations, the word of the element to which that leads.
pub derived_walk : {n N : ℕ} {m step : ℕ → ℕ → ℕ} {word : ℕ → List ℕ} → Table n N step → Derived n N m step word
    → {e : ℕ} {u : List ℕ} → e < N → Word n u → Equiv n m (word e ++ u) (word (walk step e u))
derived_walk T D e empty = rw append-nil same
derived_walk T D e (letter {w = w} g u) = join (rw append_assoc at (append_right (D.derived e g) w)) (derived_walk T D (T.closed e g) u)

module _ {n N : ℕ} {m step : ℕ → ℕ → ℕ} (T : Table n N step) (H : Holds n N m step) where
  -- Equal words lead from each element to the same element.
  pub equiv_walk : {u v : List ℕ} {e : ℕ} → Equiv n m u v → Word n u → e < N → walk step e u ≡ walk step e v
  equiv_walk (insert u {r} v h) w e = simp (walk_append, H.holds (walk_closed T e (word_left u v w)) h)
  equiv_walk same w e = refl
  equiv_walk (turn h) w e = sym (equiv_walk h ((equiv_word h).1 w) e)
  equiv_walk (join h k) w e = equiv_walk h w e ∙ equiv_walk k ((equiv_word h).0 w) e

  -- Each generator is its own inverse.
  pub involutions : Columns n N step step
  involutions = record { closed = T.closed; step_back = λ e g. H.holds e (double g); back_step = λ e g. H.holds e (double g) }

  module _ {word : ℕ → List ℕ} (S : Spelled n N step word) (D : Derived n N m step word) where
    -- Every word is equal to the recorded word of the element to which it leads.
    normal : {u : List ℕ} → Word n u → Equiv n m u (word (walk step 0 u))
    normal u = rw S.start at (derived_walk T D T.origin u)

    -- Two words lead from the identity to one element just if they are equal under the relations.
    pub presented : {u v : List ℕ} → Word n u → Word n v → walk step 0 u ≡ walk step 0 v ↔ Equiv n m u v
    presented u v = (λ e. join (rw e at (normal u)) (turn (normal v)), λ h. equiv_walk h u T.origin)

    -- The check then passes by itself: a walk may begin anywhere.
    pub presented_check : Check n N step word
    presented_check = record {
      commutes = λ s g x.
          sym (rw walk_append at (equiv_walk (D.derived x g) (word_append (S.over x) (letter g empty)) (T.closed T.origin s)));
    }

    -- Such a table is never refused by 12: it is a group's.
    pub presented_some_group : SomeGroup n N step
    presented_some_group = (exact_any S T).1 (step, involutions, presented_check)
