-- The readings of the tests over the numbers below a bound.
use mathlib.Core.Path.{◌≡◌, refl, ◌∙◌, ap}
use mathlib.Core.Logic.{◌↔◌, ◌⊎◌, inl, inr, ⊎_elim}
use mathlib.Core.Bool.{Bool, true, false, ◌&&◌}
use Prim.Native.Nat.{ℕ, zero, suc, ◌<◌, ◌≤◌}
use native.Mathlib.Nat.{eq-or-lt_of_le, le_of_suc-le-suc}
use native.Mathlib.Omega.{arith}
use lib.Dec.{T, eqb, eqb_refl}
use Rattle.theory.specs.Bounded.{all, least}

pub and_holds : (a b : Bool) → T (a && b) ↔ (T a × T b)
and_holds true b = (λ h. (tt, h), λ h. h.1)
and_holds false b = (λ h. absurd h, λ h. h.0)

-- A number below the next is the number itself or below it.
pub below_suc : {a b : ℕ} → a < suc b → (a ≡ b) ⊎ (a < b)
below_suc h = eq-or-lt_of_le (le_of_suc-le-suc h)

pub all_holds : (k : ℕ) (p : ℕ → Bool) → T (all k p) ↔ ((i : ℕ) → i < k → T (p i))
all_holds zero p = (λ h i l. absurd (omega arith), λ h. tt)
all_holds (suc k) p = (
  λ h i l. let both = (and_holds (p k) (all k p)).0 h in ⊎_elim (λ e. rw e both.0) ((all_holds k p).0 both.1 i) (below_suc l),
  λ h. (and_holds (p k) (all k p)).1 (h k (omega arith), (all_holds k p).1 (λ i l. h i (omega arith))),
)

pub is_true : (b : Bool) → T b → b ≡ true
is_true true t = refl
is_true false t = absurd t

pub is_false : (b : Bool) → ¬ (T b) → b ≡ false
is_false true f = absurd (f tt)
is_false false f = refl

pub eq→eqb : {a b : ℕ} → a ≡ b → T (eqb a b)
eq→eqb {a} {b} e = rw e (eqb_refl b)

pub decide : (b : Bool) → T b ⊎ ¬ (T b)
decide true = inl tt
decide false = inr (λ t. t)

least_here : (k : ℕ) (p : ℕ → Bool) → T (p zero) → least (suc k) p ≡ zero
least_here k p h = rw (is_true (p zero) h, least)

least_there : (k : ℕ) (p : ℕ → Bool) → ¬ (T (p zero)) → least (suc k) p ≡ suc (least k (λ i. p (suc i)))
least_there k p f = rw (is_false (p zero) f, least)

-- The least number of which p holds is found.
pub least_is : (k : ℕ) (p : ℕ → Bool) (i : ℕ) → i < k → T (p i) → ((j : ℕ) → j < i → ¬ (T (p j))) → least k p ≡ i
least_is zero p i l h f = absurd (omega arith)
least_is (suc k) p zero l h f = least_here k p h
least_is (suc k) p (suc i) l h f =
    least_there k p (f zero (omega arith)) ∙ ap suc (least_is k (λ j. p (suc j)) i (omega arith) h (λ j m. f (suc j) (omega arith)))

pub least_none : (k : ℕ) (p : ℕ → Bool) → ((j : ℕ) → j < k → ¬ (T (p j))) → least k p ≡ k
least_none zero p f = refl
least_none (suc k) p f = least_there k p (f zero (omega arith)) ∙ ap suc (least_none k (λ j. p (suc j)) (λ j m. f (suc j) (omega arith)))

-- Where one is found, p holds of it.
pub least_holds : (k : ℕ) (p : ℕ → Bool) → least k p < k → T (p (least k p))
least_holds zero p l = absurd (omega arith)
least_holds (suc k) p l = ⊎_elim
    (λ h. rw (least_here k p h) h)
    (λ f. let e = least_there k p f in rw e (least_holds k (λ i. p (suc i)) (omega arith)))
    (decide (p zero))

pub least_at_most : (k : ℕ) (p : ℕ → Bool) (j : ℕ) → T (p j) → least k p ≤ j
least_at_most zero p j h = omega arith
least_at_most (suc k) p zero h = rw (least_here k p h) (omega arith)
least_at_most (suc k) p (suc j) h = ⊎_elim
    (λ t. rw (least_here k p t) (omega arith))
    (λ f. rw (least_there k p f) (omega (arith, least_at_most k (λ i. p (suc i)) j h)))
    (decide (p zero))
