-- What is used of relators, and of words that are equal under the relations.
use mathlib.Core.Path.{◌≡◌}
use mathlib.Core.Logic.{◌↔◌}
use mathlib.Core.List.{List, ◌++◌, append_assoc}
use Prim.Native.Nat.{ℕ, zero, suc, ◌<◌}
use native.Mathlib.Nat.{lt_trans}
use Rattle.theory.specs.Words.{Word, empty, letter, walk}
use Rattle.theory.specs.Presentation.{alternate, Relator, double, pair, Equiv, insert, same, turn, join, Holds, Tested}
use Rattle.theory.proofs.Walking.{word_append, word_left, word_right}

-- The test of refusal 13 is exact: it passes just if every relator holds.
pub holds_exact : {n N : ℕ} {m step : ℕ → ℕ → ℕ} → Holds n N m step ↔ Tested n N m step
holds_exact {n} {N} {m} {step} = (
  λ H. record { doubled = λ e g. H.holds e (double g); paired = λ e i j. H.holds e (pair i j) },
  λ t. record { holds = by_kind t },
) where
  by_kind : Tested n N m step → {e : ℕ} {r : List ℕ} → e < N → Relator n m r → walk step e r ≡ e
  by_kind t e (double g) = t.doubled e g
  by_kind t e (pair i j) = t.paired e i j

pub alternate_word : {n i j : ℕ} → i < n → j < n → (k : ℕ) → Word n (alternate i j k)
alternate_word i j zero = empty
alternate_word i j (suc k) = letter i (letter j (alternate_word i j k))

pub relator_word : {n : ℕ} {m : ℕ → ℕ → ℕ} {r : List ℕ} → Relator n m r → Word n r
relator_word (double g) = letter g (letter g empty)
relator_word {m = m} (pair {i} {j} i<j j<n) = alternate_word (lt_trans i<j j<n) j<n (m i j)

module _ {n : ℕ} {m : ℕ → ℕ → ℕ} where
  -- Equal words have letters below n together.
  pub equiv_word : {u v : List ℕ} → Equiv n m u v → Word n u ↔ Word n v
  equiv_word (insert u {r} v h) = (
    λ w. word_append (word_append (word_left u v w) (relator_word h)) (word_right u v w),
    λ w. word_append (word_left u r (word_left (u ++ r) v w)) (word_right (u ++ r) v w),
  )
  equiv_word same = (λ w. w, λ w. w)
  equiv_word (turn h) = ((equiv_word h).1, (equiv_word h).0)
  equiv_word (join h k) = (λ w. (equiv_word k).0 ((equiv_word h).0 w), λ w. (equiv_word h).1 ((equiv_word k).1 w))

  pub append_right : {u v : List ℕ} → Equiv n m u v → (w : List ℕ) → Equiv n m (u ++ w) (v ++ w)
  append_right (insert u {r} v h) w = simp append_assoc (simp append_assoc at (insert u (v ++ w) h))
  append_right same w = same
  append_right (turn h) w = turn (append_right h w)
  append_right (join h k) w = join (append_right h w) (append_right k w)

  -- It is the smallest: whatever is an equivalence and lets relators be put in holds of equal words.
  pub equiv_smallest : (R : List ℕ → List ℕ → Type 0) → ((u : List ℕ) → R u u) → ((u v : List ℕ) → R u v → R v u)
      → ((u v w : List ℕ) → R u v → R v w → R u w) → ((u r v : List ℕ) → Relator n m r → R (u ++ v) (u ++ r ++ v))
      → {u v : List ℕ} → Equiv n m u v → R u v
  equiv_smallest R re sy tr ins (insert u v h) = ins u _ v h
  equiv_smallest R re sy tr ins same = re _
  equiv_smallest R re sy tr ins (turn h) = sy _ _ (equiv_smallest R re sy tr ins h)
  equiv_smallest R re sy tr ins (join h k) = tr _ _ _ (equiv_smallest R re sy tr ins h) (equiv_smallest R re sy tr ins k)
