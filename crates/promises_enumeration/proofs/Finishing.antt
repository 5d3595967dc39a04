-- A run that is done is accepted. Its words span: which of them are equal under the relations is not decided, but it cannot fail to be, and whether the call is
-- accepted is decided.
use Prim.Native.Nat.{ℕ, zero, suc, ◌+◌, ◌<◌, ◌≤◌}
use mathlib.Core.Path.{◌≡◌, refl, sym, ◌∙◌}
use mathlib.Core.Logic.{◌⊎◌, inl, inr}
use mathlib.Core.Bool.{true}
use mathlib.Core.List.{List}
use native.Mathlib.Omega.{arith}
use lib.ListN.{length}
use Rattle.egg.specs.Answers.{fine}
use Rattle.std.specs.Prelude.{Ok, Err}
use Rattle.egg.specs.Pairs.{orders_right}
use Rattle.egg.specs.Table.{start_of, step_of, parent_of}
use Rattle.build_lending.specs.Lending.{table_need, work_need, lent_right, Making, making}
use Rattle.enumeration_run.specs.Run.{enumerated}
use Rattle.enumeration_run.specs.declared.inner.Ran.TheVariants as ran
use Rattle.enumeration.specs.Calls.{enumerates}
use Rattle.enumeration.proofs.Calls.{limits}
use Rattle.theory.specs.Words.{Word, empty, letter}
use Rattle.theory.specs.Presentation.{order_of, Equiv}
use Rattle.theory.proofs.Induction.{induction}
use Rattle.theory.proofs.BoundedTests.{below_suc}
use Rattle.theory.proofs.Walking.{word_append}
use Rattle.enumeration_run_laws.specs.Going.{Finished}
use Rattle.enumeration_run_laws.specs.Invariant as invariant
use Rattle.enumeration_run_laws.proofs.Going.{done_finished}
use Rattle.build_laws.proofs.Lent.{refused_making_lem}
use Rattle.promises_enumeration.specs.Presented.{FittingTable}
use Rattle.promises_enumeration.specs.Spanning.{Spanning, Decided}
use Rattle.promises_enumeration.proofs.Quotient.{spanning_fitting}
use Rattle.promises_enumeration.proofs.Accepting.{Takes, fitting_accepted}

-- The words of a run that is done span.
module _ {n : ℕ} {o : List ℕ} {room lt lw N : ℕ} {t w : List ℕ} (F : Finished n o room lt lw N t w) where
  led : {e g : ℕ} → e < N → g < n → invariant.Step n (order_of o) F.run.word N e g (step_of t n e g)
  led {e} {g} he hg = (F.run.table.marks (start_of n e + g)).succ e g (step_of t n e g) hg refl (omega (arith, F.seen e g he hg))

  over : (e : ℕ) → e < N → Word n (F.run.word e)
  over = induction (λ e. e < N → Word n (F.run.word e)) go where
    W : invariant.RecordsWords n F.run.word N t
    W = F.run.table.words

    go : (e : ℕ) → ((d : ℕ) → d < e → d < N → Word n (F.run.word d)) → e < N → Word n (F.run.word e)
    go zero ih he = rw W.start empty
    go (suc e) ih he =
        let p = W.earlier (suc e) (omega arith) he in
        rw (W.grow (suc e) (omega arith) he) (word_append (ih (parent_of t n (suc e)) p (omega arith)) (letter (W.generator (suc e) (omega arith) he) empty))

  spans : Spanning n N (order_of o) F.run.word (step_of t n)
  spans = record {
    some = F.run.some;
    start = F.run.table.words.start;
    over = λ {e} he. over e he;
    closed = λ he hg. (led he hg).to_below;
    leads = λ he hg. (led he hg).leads;
  }

  finished_fitting : Decided n N (order_of o) F.run.word → FittingTable n (order_of o) room
  finished_fitting D = spanning_fitting spans D F.run.fits (λ e he. omega (arith, F.letters e he, F.short e he))

-- What cannot fail for each of finitely many cannot fail for all.
not_not_all : (P : ℕ → Type 0) (k : ℕ) → ((x : ℕ) → ¬ (¬ (P x))) → ¬ (¬ ((x : ℕ) → x < k → P x))
not_not_all P zero each f = f (λ x l. absurd (omega arith))
not_not_all P (suc k) each f = not_not_all P k each (λ all. each k (λ p. f (λ x l. at all p x (below_suc l)))) where
  at : ((x : ℕ) → x < k → P x) → P k → (x : ℕ) → (x ≡ k) ⊎ (x < k) → P x
  at all p x (inl e) = rw e p
  at all p x (inr l) = all x l

decided : (n N : ℕ) (m : ℕ → ℕ → ℕ) (word : ℕ → List ℕ) → ¬ (¬ Decided n N m word)
decided n N m word f =
    not_not_all (λ x. (y : ℕ) → y < N → Dec (Equiv n m (word x) (word y))) N
    (λ x. not_not_all (λ y. Dec (Equiv n m (word x) (word y))) N (λ y g. g (no (λ e. g (yes e)))))
    (λ all. f (record { decide = λ x y hx hy. all x hx y hy }))

module _ (table : List ℕ) (start : ℕ) (work orders : List ℕ) (n room : ℕ) (hn : n ≤ 8) (right : orders_right orders n ≡ fine)
    (lent : lent_right (length table) start (length work) room n ≡ true) where
  takes_decided : Dec (Takes table start work orders n room)
  takes_decided = by (enumerates table start work orders n room) refl where
    by : (x : Making) → enumerates table start work orders n room ≡ x → Dec (Takes table start work orders n room)
    by (making (Ok f) t w) q = yes (f, t, w, q)
    by (making (Err r) t w) q = no (λ a. refused_making_lem (sym q ∙ a.3))

  -- A run that is done is accepted.
  pub done_accepted : {N : ℕ} → (enumerated n orders room (table_need n room) (work_need n room)).answer ≡ ran.Done N → Takes table start work orders n room
  done_accepted {N} q = by takes_decided where
    F : Finished n orders room (table_need n room) (work_need n room) N (enumerated n orders room (table_need n room) (work_need n room)).table
        (enumerated n orders room (table_need n room) (work_need n room)).work
    F = done_finished (limits table start work orders n room hn right lent) q

    by : Dec (Takes table start work orders n room) → Takes table start work orders n room
    by (yes a) = a
    by (no d) = absurd (decided n N (order_of orders) F.run.word (λ D. d (fitting_accepted table start work orders n room hn right lent (finished_fitting F D))))
