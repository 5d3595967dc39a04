-- Where the columns are permutations and no group has the table, viewers part, and only there: a place at which the check fails is a generator's element and
-- turns that part them.
use mathlib.Core.Path.{◌≡◌, sym, ap, ◌∙◌}
use mathlib.Core.Logic.{◌↔◌, ⊎_elim}
use mathlib.Core.List.{List, [], ◌∷◌, ◌++◌}
use mathlib.Core.Bool.{Bool}
use Prim.Native.Nat.{ℕ, zero, suc, ◌<◌}
use native.Mathlib.Omega.{arith}
use lib.Dec.{T}
use Rattle.theory.specs.Bounded.{all}
use Rattle.theory.specs.Table.{Table, Columns}
use Rattle.theory.specs.Words.{empty, letter, walk, Spelled}
use Rattle.theory.specs.AnyGroup.{SomeGroup}
use Rattle.theory.specs.Regular.{left, Check}
use Rattle.theory.specs.Parting.{Parting}
use Rattle.theory.proofs.BoundedTests.{and_holds, decide, eq→eqb}
use Rattle.theory.proofs.Walking.{word_append, walk_append}
use Rattle.theory.proofs.Sound.{compose_walk}
use Rattle.theory.proofs.Exact.{exact_any}
use Rattle.theory.proofs.Test.{check_exact}

-- A test that fails for some number below a bound fails for one that is found.
pub all_fails : (k : ℕ) (p : ℕ → Bool) → ¬ (T (all k p)) → (i : ℕ) × (i < k) × ¬ (T (p i))
all_fails zero p f = absurd (f tt)
all_fails (suc k) p f = ⊎_elim
    (λ h. let r = all_fails k p (λ a. f ((and_holds (p k) (all k p)).1 (h, a))) in (r.0, omega (arith, r.1), r.2))
    (λ d. (k, omega arith, d))
    (decide (p k))

module _ {n N : ℕ} {step : ℕ → ℕ → ℕ} {word : ℕ → List ℕ} (Q : Table n N step) (S : Spelled n N step word) where
  -- Where viewers part no group has the table.
  parting_groupless : Parting n N step word → ¬ (SomeGroup n N step)
  parting_groupless P G = P.apart (sym (compose_walk Q S ((exact_any S Q).0 G).2 P.from_below P.over))

  -- A place where multiplication on the left does not commute with a step.
  check_fails : ¬ (Check n N step word)
      → (s : ℕ) × (g : ℕ) × (x : ℕ) × (s < n) × (g < n) × (x < N) × ¬ (left step word s (step x g) ≡ step (left step word s x) g)
  check_fails f =
      let a = all_fails n _ (λ h. f ((check_exact {n = n} {N = N} {step = step} word).0 h)) in
      let b = all_fails n _ a.2 in
      let c = all_fails N _ b.2 in
      (a.0, b.0, c.0, a.1, b.1, c.1, λ q. c.2 (eq→eqb q))

  parts : ¬ (Check n N step word) → Parting n N step word
  parts f =
      let (s, g, x, hs, hg, hx, d) = check_fails f in
      let reached : walk step 0 (word x ++ g ∷ []) ≡ step x g = walk_append step 0 (word x) (g ∷ []) ∙ ap (λ y. step y g) (S.spells hx) in
      record {
        from = step 0 s;
        turns = word x ++ g ∷ [];
        from_below = Q.closed Q.origin hs;
        over = word_append (S.over hx) (letter hg empty);
        apart = λ q. d (sym (ap (λ y. walk step (step 0 s) (word y)) reached) ∙ sym q ∙ walk_append step (step 0 s) (word x) (g ∷ []));
      }

  -- No group has the table exactly where viewers part.
  pub groupless_parting : {back : ℕ → ℕ → ℕ} → Columns n N step back → (¬ (SomeGroup n N step)) ↔ Parting n N step word
  groupless_parting {back} B = (λ none. parts (λ c. none ((exact_any S Q).1 (back, B, c))), parting_groupless)
