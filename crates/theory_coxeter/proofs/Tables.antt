-- Two descents in a table: the group is that of the table, and the recorded words are the shortest.
use mathlib.Core.Path.{◌≡◌, sym, ap, ◌∙◌}
use mathlib.Core.List.{List, [], ◌∷◌}
use Prim.Native.Nat.{ℕ, suc, ◌+◌, ◌<◌, ◌≤◌}
use native.Mathlib.Nat.{lt_trans}
use native.Mathlib.Decide.{ℕ_discrete}
use lib.ListN.{length}
use Rattle.theory.specs.Table.{Table}
use Rattle.theory.specs.Words.{Word, empty, letter, walk, Spelled}
use Rattle.theory.specs.Appearance.{recorded}
use Rattle.theory.specs.AnyGroup.{SomeGroup, word_product}
use Rattle.theory.specs.Presentation.{Derived}
use Rattle.theory.proofs.Walking.{word_append, walk_append}
use Rattle.theory.proofs.Counting.{numbered_table}
use Rattle.theory.proofs.FirstPlaces.{numbered_spelled}
use Rattle.theory.proofs.Shortest.{recorded_best}
use Rattle.theory.proofs.AnyCarrier.{elt_zero}
use Rattle.theory.proofs.Relations.{alternate_word, relator_word}
use Rattle.theory.proofs.Presented.{presented_some_group}
use Rattle.theory_coxeter.specs.Coxeter.{turns, Presents, ExactOrders, ShortestWords, Descent}
use Rattle.theory_coxeter.specs.Tables.{PresentedTable, ExactWords}
use Rattle.theory_coxeter.specs.Groups.{PresentedGroup}
use Rattle.theory_coxeter.proofs.Algebra.{product_alternate}
use Rattle.theory_coxeter.proofs.Turns.{turns_word}
use Rattle.theory_coxeter.proofs.Exchange.{ascends}
use Rattle.theory_coxeter.proofs.Descents.{two_descents}

module _ {n N : ℕ} {m step : ℕ → ℕ → ℕ} (P : PresentedTable n N m step) where
  pub table : Table n N step
  table = numbered_table P.numbered

  pub spelled : Spelled n N step (recorded n step)
  spelled = numbered_spelled P.numbered

  pub derived : Derived n N m step (recorded n step)
  derived = record {
    derived = λ {e} {g} he hg. P.faithful (word_append (spelled.over he) (letter hg empty)) (spelled.over (table.closed he hg))
        (walk_append step 0 (recorded n step e) (g ∷ []) ∙ ap (λ x. step x g) (spelled.spells he) ∙ sym (spelled.spells (table.closed he hg)));
  }

  some : SomeGroup n N step
  some = presented_some_group table P.holds spelled derived

  open some use {Carrier, group, numbers, gen, steps}
  open numbers use {num, elt}

  num_once : {a b : Carrier} → num a ≡ num b → a ≡ b
  num_once {a} {b} e = sym (numbers.elt_num a) ∙ ap elt e ∙ numbers.elt_num b

  alike : (a b : Carrier) → Dec (a ≡ b)
  alike a b = by (ℕ_discrete (num a) (num b)) where
    by : Dec (num a ≡ num b) → Dec (a ≡ b)
    by (yes e) = yes (num_once e)
    by (no d) = no (λ e. d (ap num e))

  walked : {e : ℕ} {u : List ℕ} → e < N → Word n u → num (group.op (elt e) (word_product group gen u)) ≡ walk step e u
  walked {e} he empty = ap num (group.right_unit (elt e)) ∙ numbers.num_elt he
  walked {e} he (letter {g} {w} hg hw) =
      let q : elt (step e g) ≡ group.op (elt e) (gen g) = ap elt (steps he hg) ∙ numbers.elt_num (group.op (elt e) (gen g)) in
      ap num (sym (group.assoc (elt e) (gen g) (word_product group gen w)) ∙ ap (λ x. group.op x (word_product group gen w)) (sym q)) ∙ walked {e = step e g} (table.closed he hg) hw

  walked_zero : {u : List ℕ} → Word n u → num (word_product group gen u) ≡ walk step 0 u
  walked_zero {u} hu = ap num (sym (group.left_unit (word_product group gen u)) ∙ ap (λ x. group.op x (word_product group gen u)) (sym (elt_zero numbers))) ∙ walked table.origin hu

  presents : Presents group gen n m
  presents = record {
    holds = λ {r} R. num_once (walked_zero (relator_word R) ∙ P.holds.holds table.origin R ∙ sym numbers.num_unit);
    faithful = λ hu hv e. P.faithful hu hv (sym (walked_zero hu) ∙ ap num e ∙ walked_zero hv);
  }

  abbrev word : Carrier → List ℕ
  word a = recorded n step (num a)

  shortest : ShortestWords group gen n word
  shortest = record {
    over = λ a. spelled.over (numbers.num_below a);
    spells = λ a. num_once (walked_zero (spelled.over (numbers.num_below a)) ∙ spelled.spells (numbers.num_below a));
    least = λ {u} hu. rw (walked_zero hu) (recorded_best P.numbered hu).0;
  }

  -- The length of the recorded word.
  abbrev pub len : ℕ → ℕ
  len e = length (recorded n step e)

  -- The table is that of a group which the orders present.
  pub table_group : {longest : ℕ} → ((e : ℕ) → e < N → len e ≤ longest) → PresentedGroup n N m longest
  table_group short = record {
    Carrier = Carrier;
    group = group;
    gen = gen;
    numbers = numbers;
    presents = presents;
    word = word;
    over = shortest.over;
    spells = shortest.spells;
    short = λ a. short (num a) (numbers.num_below a);
  }

  stepped : {e g : ℕ} → e < N → g < n → num (group.op (elt e) (gen g)) ≡ step e g
  stepped he hg = sym (steps he hg)

  -- A descent in the table is one in the group.
  descent : {e g : ℕ} → e < N → g < n → len (step e g) < len e → Descent group gen word (elt e) g
  descent he hg h = rw (stepped he hg, numbers.num_elt he) h

  pub step_up : {e g : ℕ} → e < N → g < n → ¬ (len (step e g) < len e) → len (step e g) ≡ suc (len e)
  step_up {e} {g} he hg h =
      let a : len (num (group.op (elt e) (gen g))) ≡ suc (len (num (elt e))) =
      ascends group gen alike presents shortest (elt e) g hg (λ d. h (rw (stepped he hg, numbers.num_elt he) at d)) in
      rw (stepped he hg, numbers.num_elt he) at a

  module _ (X : ExactWords n m) where
    exact_orders : ExactOrders group gen n m
    exact_orders = record {
      positive = λ hi hj. X.positive hi hj;
      exact = λ {i} {j} {k} hi hj pos l e. X.exact hi hj pos l (P.faithful (alternate_word (lt_trans hi hj) hj k) empty
          (sym (walked_zero (alternate_word (lt_trans hi hj) hj k)) ∙ ap num (product_alternate group gen i j k ∙ e) ∙ numbers.num_unit));
    }

    -- If i and j lead from x to shorter elements, then i j i .. and j i j .. lead down from it, for as many letters as the order of the pair.
    pub table_descents : {i j x : ℕ} → x < N → i < j → j < n → len (step x i) < len x → len (step x j) < len x → (k : ℕ) → k ≤ m i j
        → (len (walk step x (turns i j k)) + k ≡ len x) × (len (walk step x (turns j i k)) + k ≡ len x)
    table_descents {i} {j} {x} hx hi hj di dj k hk =
        let hi' : i < n = lt_trans hi hj in
        let d = two_descents group gen alike presents shortest exact_orders (elt x) hi hj (descent hx hi' di) (descent hx hj dj) k hk in
        rw (walked hx (turns_word hi' hj k), walked hx (turns_word hj hi' k), numbers.num_elt hx) at d
