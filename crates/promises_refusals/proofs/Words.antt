-- Which words lead to one number, and the numbering rule, determine the whole table. So of all tables by the rule one has what demand 3 asks: whoever
-- invents a row has another table, and breaks it.
use Prim.Native.Nat.{ℕ, suc, ◌<◌, ◌≤◌}
use mathlib.Core.Path.{◌≡◌, refl, sym, ap, ◌∙◌}
use mathlib.Core.Logic.{◌↔◌, ◌⊎◌, inl, inr, ⊎_elim}
use mathlib.Core.List.{List, [], ◌∷◌, ◌++◌}
use native.Mathlib.Nat.{eq-or-lt_of_le}
use native.Mathlib.Omega.{arith}
use Rattle.theory.specs.Words.{Word, empty, letter, walk}
use Rattle.theory.specs.Numbering.{Known, start, old, new, next_row, Numbered}
use Rattle.theory.specs.Appearance.{Ahead, row, column}
use Rattle.theory.specs.Presentation.{order_of, Equiv}
use Rattle.theory.proofs.BoundedTests.{below_suc}
use Rattle.theory.proofs.Counting.{row_known}
use Rattle.theory.proofs.Places.{ahead_column, ahead_row, nothing_ahead}
use Rattle.theory.proofs.Reading.{numbered_once}
use Rattle.theory.proofs.RuleLaws.{no_skip, count_within}
use Rattle.theory.proofs.Walking.{word_append, walk_append}
use Rattle.egg.specs.declared.Factor.{Factor}
use Rattle.factor_laws.specs.Accepted.{factor_step}
use Rattle.promises.specs.Enumerated.{Demand3}

module _ {n N N' : ℕ} {step step' : ℕ → ℕ → ℕ} (R : Numbered n N step) (R' : Numbered n N' step')
    (same : (u v : List ℕ) → Word n u → Word n v → walk step 0 u ≡ walk step 0 v ↔ (walk step' 0 u ≡ walk step' 0 v)) where
  -- A word that leads to e in both tables.
  abbrev Spells : ℕ → Type 0
  Spells e = (u : List ℕ) × Word n u × (walk step 0 u ≡ e) × (walk step' 0 u ≡ e)

  -- Both tables have been read to row x and column g: they agree so far, and each of the c elements has such a word.
  record Agree (x g c : ℕ) : Type 0 where
    rule : Known n step' x g c
    steps : (y h : ℕ) → h < n → Ahead y h x g → step y h ≡ step' y h
    words : (e : ℕ) → e < c → Spells e

  not_ahead : {x g c : ℕ} → Known n step' x g c → g < n → step' x g ≤ c
  not_ahead {x} {g} K hg = no_skip K hg R'.known (place (eq-or-lt_of_le l)) where
    l : x ≤ R'.end
    l = omega (arith, row_known K, count_within R' K, R'.last_row)

    place : (x ≡ R'.end) ⊎ (x < R'.end) → Ahead x g R'.end n
    place (inl q) = column q hg
    place (inr m) = row m

  -- The word of x and one letter.
  module _ {x g : ℕ} (hg : g < n) (U : Spells x) where
    abbrev longer : List ℕ
    longer = U.0 ++ g ∷ []

    longer_word : Word n longer
    longer_word = word_append U.1 (letter hg empty)

    longer_leads : walk step 0 longer ≡ step x g
    longer_leads = walk_append step 0 U.0 (g ∷ []) ∙ ap (λ (z : ℕ). step z g) U.2

    longer_leads' : walk step' 0 longer ≡ step' x g
    longer_leads' = walk_append step' 0 U.0 (g ∷ []) ∙ ap (λ (z : ℕ). step' z g) U.3

    -- An element that one of the tables has there, and that is known, the other has there too.
    known_there : {r : ℕ} → Spells r → step x g ≡ r → step' x g ≡ r
    known_there D q = sym longer_leads' ∙ (same longer D.0 longer_word D.1).0 (longer_leads ∙ q ∙ sym D.2) ∙ D.3

    known_here : {r : ℕ} → Spells r → step' x g ≡ r → step x g ≡ r
    known_here D q = sym longer_leads ∙ (same longer D.0 longer_word D.1).1 (longer_leads' ∙ q ∙ sym D.3) ∙ D.2

  -- One place more on which they agree.
  one_more : {x g c : ℕ} → Agree x g c → step x g ≡ step' x g → (y h : ℕ) → h < n → Ahead y h x (suc g) → step y h ≡ step' y h
  one_more A q y h hh a = ⊎_elim (λ s. cc) (A.steps y h hh) (ahead_column a)

  agree : {x g c : ℕ} → Known n step x g c → Agree x g c
  agree start = record {
    rule = start;
    steps = λ y h hh a. absurd (nothing_ahead a);
    words = λ e he. let z : e ≡ 0 = omega arith in ([], empty, sym z, sym z);
  }
  agree (old {x} {g} {c} K hg t) =
      let A = agree K in
      let q = known_there hg (A.words x (row_known K)) (A.words (step x g) t) refl in
      record { rule = old A.rule hg (rw q t); steps = one_more A (sym q); words = A.words }
  agree (new {x} {g} {c} K hg t) =
      let A = agree K in
      let U = A.words x (row_known K) in
      let q : step' x g ≡ c = ⊎_elim (λ e. e) (λ l. absurd (omega (arith, known_here hg U (A.words (step' x g) l) refl))) (eq-or-lt_of_le (not_ahead A.rule hg)) in
      record {
        rule = new A.rule hg q;
        steps = one_more A (t ∙ sym q);
        words = λ e he. ⊎_elim
            (λ z. (longer hg U, longer_word hg U, longer_leads hg U ∙ t ∙ sym z, longer_leads' hg U ∙ q ∙ sym z))
            (A.words e)
            (below_suc he);
      }
  agree (next_row K h) =
      let A = agree K in
      record { rule = next_row A.rule h; steps = λ y k hk a. A.steps y k hk (ahead_row hk a); words = A.words }

  pub words_determine : (N ≡ N') × ((e g : ℕ) → e < N → g < n → step e g ≡ step' e g)
  words_determine =
      let A = agree R.known in (
        numbered_once (record { end = R.end; last_row = R.last_row; known = A.rule }) R',
        λ e g he hg. A.steps e g hg (place e g hg (eq-or-lt_of_le (omega (arith, R.last_row)))),
      ) where
        place : (e g : ℕ) → g < n → (e ≡ R.end) ⊎ (e < R.end) → Ahead e g R.end n
        place e g hg (inl q) = column q hg
        place e g hg (inr l) = row l

-- "Two generator words lead from the identity to the same element number exactly when one can be turned into the other": by the numbering rule one table
-- only has that for these orders.
pub demand_3_determines : {n N N' : ℕ} {m step step' : ℕ → ℕ → ℕ} → Numbered n N step → Numbered n N' step'
    → ((u v : List ℕ) → Word n u → Word n v → walk step 0 u ≡ walk step 0 v ↔ Equiv n m u v)
    → ((u v : List ℕ) → Word n u → Word n v → walk step' 0 u ≡ walk step' 0 v ↔ Equiv n m u v)
    → (N ≡ N') × ((e g : ℕ) → e < N → g < n → step e g ≡ step' e g)
demand_3_determines R R' a b =
    words_determine R R' (λ u v hu hv. (λ q. (b u v hu hv).1 ((a u v hu hv).0 q), λ q. (a u v hu hv).1 ((b u v hu hv).0 q)))

-- So a table by the rule that differs from an accepted enumeration's in one row breaks demand 3.
pub invented_row : {orders : List ℕ} {f : Factor} {t : List ℕ} {N e g : ℕ} {step : ℕ → ℕ → ℕ} → Demand3 orders f t
    → Numbered f.generators f.elements (factor_step t f) → Numbered f.generators N step → e < f.elements → g < f.generators
    → ¬ (factor_step t f e g ≡ step e g)
    → ((u v : List ℕ) → Word f.generators u → Word f.generators v → walk step 0 u ≡ walk step 0 v ↔ Equiv f.generators (order_of orders) u v) → ⊥
invented_row {e = e} {g} D R R' he hg differs other = differs ((demand_3_determines R R' (λ u v hu hv. D.presented hu hv) other).1 e g he hg)
