-- Words that are recorded by their last letters lead to their elements.
use mathlib.Core.Path.{◌≡◌, refl}
use mathlib.Core.List.{List, [], ◌∷◌, ◌++◌}
use Prim.Native.Nat.{ℕ, zero, suc, ◌<◌, ◌≤◌}
use native.Mathlib.Omega.{arith}
use lib.ListN.{length, length-append}
use Rattle.theory.specs.Words.{Word, empty, letter, walk, retrace, Spelled, Parents, Recorded, trace, word_of_lem}
use Rattle.theory.proofs.Walking.{word_append, walk_append, retrace_append}
use Rattle.theory.proofs.Induction.{induction}

module _ {n N : ℕ} {step : ℕ → ℕ → ℕ} {parent last : ℕ → ℕ} {word : ℕ → List ℕ}
    (P : Parents n N step parent last) (R : Recorded N parent last word) where
  good : (e : ℕ) → e < N → Word n (word e) × (walk step 0 (word e) ≡ e)
  good = induction (λ e. e < N → Word n (word e) × (walk step 0 (word e) ≡ e)) go where
    go : (e : ℕ) → ((d : ℕ) → d < e → d < N → Word n (word d) × (walk step 0 (word d) ≡ d)) → e < N → Word n (word e) × (walk step 0 (word e) ≡ e)
    go zero ih h = (rw R.start empty, rw R.start)
    go (suc e) ih h =
        let p : 0 < suc e = omega arith in
        let q = P.earlier p h in
        let before = ih (parent (suc e)) q (omega arith) in (
          rw (R.grow p h) (word_append before.0 (letter (P.generator p h) empty)),
          rw (R.grow p h, walk_append, before.1) (P.arrives p h),
        )

  pub recorded_spelled : Spelled n N step word
  recorded_spelled = record { start = R.start; over = λ h. (good _ h).0; spells = λ h. (good _ h).1 }

module _ {N : ℕ} {parent last : ℕ → ℕ} {word : ℕ → List ℕ} (R : Recorded N parent last word) where
  -- Walks are found along the record: from a along the word of x (so the left multiplications of the check), and back along it (so the inverse).
  pub walk_grow : (step : ℕ → ℕ → ℕ) (a : ℕ) {x : ℕ} → 0 < x → x < N → walk step a (word x) ≡ step (walk step a (word (parent x))) (last x)
  walk_grow step a p h = rw (R.grow p h, walk_append)

  pub retrace_grow : (back : ℕ → ℕ → ℕ) (a : ℕ) {x : ℕ} → 0 < x → x < N → retrace back a (word x) ≡ retrace back (back a (last x)) (word (parent x))
  retrace_grow back a p h = rw (R.grow p h, retrace_append)

  pub length_grow : {x : ℕ} → 0 < x → x < N → length (word x) ≡ suc (length (word (parent x)))
  length_grow p h = rw (R.grow p h, length-append) (omega arith)

module _ {n N : ℕ} {step : ℕ → ℕ → ℕ} {parent last : ℕ → ℕ} (P : Parents n N step parent last) where
  -- How often one may go from parent to parent does not matter, if it is often enough.
  trace_enough : (k l e : ℕ) → e ≤ k → e ≤ l → e < N → trace parent last k e ≡ trace parent last l e
  trace_enough zero zero e h h' he = refl
  trace_enough zero (suc l) zero h h' he = refl
  trace_enough zero (suc l) (suc e) h h' he = absurd (omega arith)
  trace_enough (suc k) zero zero h h' he = refl
  trace_enough (suc k) zero (suc e) h h' he = absurd (omega arith)
  trace_enough (suc k) (suc l) zero h h' he = refl
  trace_enough (suc k) (suc l) (suc e) h h' he =
      let p = P.earlier {e = suc e} (omega arith) he in
      rw (trace_enough k l (parent (suc e)) (omega arith) (omega arith) (omega arith))

  grows : (e : ℕ) → 0 < e → e < N → word_of_lem parent last e ≡ word_of_lem parent last (parent e) ++ last e ∷ []
  grows zero pos h = absurd (omega arith)
  grows (suc e) pos h =
      let p = P.earlier pos h in
      rw (trace_enough e (parent (suc e)) (parent (suc e)) (omega arith) (omega arith) (omega arith))

  pub word_of_recorded : Recorded N parent last (word_of_lem parent last)
  word_of_recorded = record { start = refl; grow = λ pos h. grows _ pos h }

-- The same parents and last generators make the same words.
pub recorded_once : {N : ℕ} {parent last parent' last' : ℕ → ℕ} {word word' : ℕ → List ℕ}
    → Recorded N parent last word → Recorded N parent' last' word'
    → ((e : ℕ) → 0 < e → e < N → (parent e < e) × (parent e ≡ parent' e) × (last e ≡ last' e)) → (e : ℕ) → e < N → word e ≡ word' e
recorded_once {N} {parent} {word = word} {word'} R R' agree = induction (λ e. e < N → word e ≡ word' e) go where
  go : (e : ℕ) → ((d : ℕ) → d < e → d < N → word d ≡ word' d) → e < N → word e ≡ word' e
  go zero ih h = cc (R.start, R'.start)
  go (suc e) ih h =
      let p : 0 < suc e = omega arith in
      let a = agree (suc e) p h in
      cc (R.grow p h, R'.grow p h, ih (parent (suc e)) a.0 (omega (arith, a.0)), a.1, a.2)

-- Who has the same steps, parents and last generators reaches each element from its parent as well.
pub parents_agree : {n N : ℕ} {step step' : ℕ → ℕ → ℕ} {parent last parent' last' : ℕ → ℕ} → Parents n N step parent last
    → ((e g : ℕ) → e < N → g < n → step' e g ≡ step e g)
    → ((e : ℕ) → 0 < e → e < N → parent' e ≡ parent e) → ((e : ℕ) → 0 < e → e < N → last' e ≡ last e) → Parents n N step' parent' last'
parents_agree {parent = parent} {last} P steps parents lasts = record {
  earlier = λ {e} pos he. rw (parents e pos he) (P.earlier pos he);
  generator = λ {e} pos he. rw (lasts e pos he) (P.generator pos he);
  arrives = λ {e} pos he.
      let low : parent e < e = P.earlier pos he in
      rw (parents e pos he, lasts e pos he, steps (parent e) (last e) (omega arith) (P.generator pos he)) (P.arrives pos he);
}
