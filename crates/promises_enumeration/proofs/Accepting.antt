-- Pair orders whose group fits the room are accepted.
use Prim.Native.Nat.{ℕ, ◌<◌, ◌≤◌}
use mathlib.Core.Path.{◌≡◌, refl, sym, ◌∙◌}
use mathlib.Core.Bool.{true}
use mathlib.Core.List.{List, [], ◌∷◌}
use native.Mathlib.Omega.{arith}
use lib.ListN.{length}
use Rattle.egg.specs.declared.Factor.{Factor}
use Rattle.egg.specs.Answers.{fine}
use Rattle.std.specs.Prelude.{Ok}
use Rattle.egg.specs.Pairs.{orders_right}
use Rattle.egg.specs.Table.{parent_of, last_of}
use Rattle.build_lending.specs.Lending.{table_need, work_need, lent_right, making}
use Rattle.enumeration_run.specs.Run.{enumerated}
use Rattle.enumeration_run.specs.declared.inner.Ran.TheVariants as ran
use Rattle.enumeration.specs.Calls.{enumerates}
use Rattle.enumeration.proofs.Calls.{limits}
use Rattle.theory.specs.Words.{Parents}
use Rattle.theory.specs.Appearance.{recorded}
use Rattle.theory.specs.Presentation.{order_of, double, Equiv, turn, join}
use Rattle.theory.proofs.Induction.{Order, less, equal, more, order}
use Rattle.theory.proofs.Recording.{word_of_recorded, recorded_once, parents_agree}
use Rattle.theory.proofs.Relations.{append_right}
use Rattle.theory.proofs.Deduction.{strike}
use Rattle.theory.proofs.Presented.{equiv_walk}
use Rattle.enumeration_run_laws.specs.Recorded as run
use Rattle.theory_coxeter.specs.Tables.{PresentedTable, ExactWords}
use Rattle.theory_coxeter.proofs.Tables.{table, spelled}
use Rattle.enumeration_complete_laws.proofs.GroupTable.{parents}
use Rattle.enumeration_complete_laws.specs.Ends.{TableWords}
use Rattle.enumeration_complete_laws.proofs.Running.{enumerated_done}
use Rattle.promises.specs.NoneTwice.{NoneTwice}
use Rattle.promises.proofs.NoneTwice.{enumeration_exactly}
use Rattle.promises_enumeration.specs.Presented.{FittingTable}
use Rattle.promises_enumeration.proofs.Orders.{right_exact, right_two}

-- Generators are not equal under the relations.
generators_apart : {n : ℕ} {m : ℕ → ℕ → ℕ} → ExactWords n m → ((i j : ℕ) → i < j → j < n → 2 ≤ m i j) → {g h : ℕ} → g < n → h < n → Equiv n m (g ∷ []) (h ∷ []) → g ≡ h
generators_apart {n} {m} X two {g} {h} hg hh q = by (order g h) where
  apart : (i j : ℕ) → i < j → j < n → Equiv n m (i ∷ []) (j ∷ []) → ⊥
  apart i j l hj e = X.exact {k = 1} l hj (omega arith) (omega (arith, two i j l hj)) (join (append_right e (j ∷ [])) (strike [] (double hj)))

  by : Order g h → g ≡ h
  by (less l) = absurd (apart g h l hh q)
  by (equal e) = e
  by (more l) = absurd (apart h g l hg (turn q))

-- The words that the run records are those of the table, so no two are equal under the relations.
module _ {n N : ℕ} {m step : ℕ → ℕ → ℕ} (P : PresentedTable n N m step) (t : List ℕ) (W : TableWords n step N t) where
  own : Parents n N step (parent_of t n) (last_of t n)
  own = parents_agree (parents P) (λ e g he hg. refl) W.parent W.last

  words_same : (e : ℕ) → e < N → run.words n t e ≡ recorded n step e
  words_same = recorded_once (word_of_recorded own) (word_of_recorded (parents P)) (λ e pos he. (own.earlier pos he, W.parent e pos he, W.last e pos he))

  none_twice : ExactWords n m → ((i j : ℕ) → i < j → j < n → 2 ≤ m i j) → NoneTwice n N m (run.words n t)
  none_twice X two = record {
    elements = λ {x} {y} hx hy q.
        let e : Equiv n m (recorded n step x) (recorded n step y) = rw (words_same x hx, words_same y hy) at q in
        sym ((spelled P).spells hx) ∙ equiv_walk (table P) P.holds e ((spelled P).over hx) (table P).origin ∙ (spelled P).spells hy;
    generators = λ hg hh q. generators_apart X two hg hh q;
  }

-- The call is accepted.
abbrev pub Takes : (table : List ℕ) (start : ℕ) (work orders : List ℕ) (n room : ℕ) → Type 0
Takes table start work orders n room =
    (f : Factor) × (t : List ℕ) × (w : List ℕ) × (enumerates table start work orders n room ≡ making (Ok f) t w)

-- With right arguments, orders whose group fits the room are accepted.
module _ (table : List ℕ) (start : ℕ) (work orders : List ℕ) (n room : ℕ) (hn : n ≤ 8) (right : orders_right orders n ≡ fine)
    (lent : lent_right (length table) start (length work) room n ≡ true) where
  pub fitting_done : (F : FittingTable n (order_of orders) room) → (enumerated n orders room (table_need n room) (work_need n room)).answer ≡ ran.Done F.N
  fitting_done F =
      (enumerated_done orders (limits table start work orders n room hn right lent) F.presented (right_exact orders n right) F.within_room F.short).0

  pub fitting_accepted : FittingTable n (order_of orders) room → Takes table start work orders n room
  fitting_accepted F =
      let X = right_exact orders n right in
      let d = enumerated_done orders (limits table start work orders n room hn right lent) F.presented X F.within_room F.short in
      (enumeration_exactly table start work orders n room hn right lent).1
      (F.N, d.0, none_twice F.presented (enumerated n orders room (table_need n room) (work_need n room)).table d.1 X (right_two orders n right))
