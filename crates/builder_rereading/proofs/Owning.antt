-- Laws of the reading of a builder's own rows: one for each way in which a place ends, and one for each way in which a turn over a row's places and over the
-- rows ends; and that it reads no number but those of the elements' rows.
use Prim.Native.Nat.{ℕ, zero, suc, ◌+◌, ◌*◌, ◌-◌, ◌≤◌, ◌<◌}
use mathlib.Core.Path.{◌≡◌, refl, ap, ◌∙◌}
use mathlib.Core.List.{List}
use native.Mathlib.Omega.{arith}
use borrow.Author.Tests.{eq-eqb, ne_eqb, lt-ltb, le-ltb, le-leb, lt-leb}
use lib.Dec.{ltb}
use lib.ListN.{length}
use Rattle.egg.specs.declared.Refusal.{Refusal}
use Rattle.egg.specs.Answers.{Counted, Verdict, fine}
use Rattle.std.specs.Prelude.{Ok, Err}
use Rattle.egg.specs.Table.{pick}
use Rattle.build_checks.specs.Checks.{check8}
use Rattle.egg.specs.Answers.{numbered}
use Rattle.build_reading.specs.Reading.{Placed, placed, then_placed, read_place}
use Rattle.build_reading.proofs.Readings.{then_same}
use Rattle.build_lending.specs.Finish.{built, zeroed, finished, finished_placed}
use Rattle.builder_rereading.specs.Own.{stored_at, copied_step, copied, own_place, own_row, own_from, own_all, all_reached, reaches_all, own_in}
use Rattle.builder_rereading.proofs.Copying.{copied_at}

module _ (t : List ℕ) (n room elements count e g x : ℕ) where
  pub own_missing : x ≡ 0 → placed (Ok count) t ≡ own_place t n room elements count e g x
  unfolding own_place
  own_missing h = simp (eq-eqb x 0 h)

  pub own_outside : (x ≡ 0 → ⊥) → elements < x → placed (Err (numbered 17 0 0 0)) t ≡ own_place t n room elements count e g x
  unfolding own_place
  own_outside h k = simp (ne_eqb x 0 h, lt-ltb _ _ k)

  pub own_read : (x ≡ 0 → ⊥) → x ≤ elements → read_place t n room count e g (x - 1) ≡ own_place t n room elements count e g x
  unfolding own_place
  own_read h k = simp (ne_eqb x 0 h, le-ltb _ _ k)

module _ (own : ℕ → ℕ → ℕ) (n room elements e g count : ℕ) (t : List ℕ) where
  module _ (h : g < n) {x : ℕ} (w : x ≡ own e g) {c : Counted} {l : List ℕ} (s : placed c l ≡ own_place t n room elements count e g x) where
    pub own_row_next : {k : ℕ} → c ≡ Ok k → own_row (n - g) own n room elements e g count t ≡ own_row (n - (g + 1)) own n room elements e (g + 1) k l
    unfolding own_row
    own_row_next q = let d : n - g ≡ suc (n - (g + 1)) = omega arith in rw (d, ← w, ← s, q)

    pub own_row_stop : {r : Refusal} → c ≡ Err r → placed c l ≡ own_row (n - g) own n room elements e g count t
    unfolding own_row
    own_row_stop q = let d : n - g ≡ suc (n - (g + 1)) = omega arith in rw (d, ← w, ← s, q)

  pub own_row_end : n ≤ g → placed (Ok count) t ≡ own_row (n - g) own n room elements e g count t
  unfolding own_row
  own_row_end h = let d : n - g ≡ 0 = omega arith in rw d

module _ (own : ℕ → ℕ → ℕ) (n room elements e count : ℕ) (t : List ℕ) where
  module _ (h : e < elements) where
    pub own_done : count ≤ e → placed (Ok count) t ≡ own_from (elements - e) own n room elements e count t
    unfolding own_from
    own_done z = let d : elements - e ≡ suc (elements - (e + 1)) = omega arith in rw d (simp (le-ltb _ _ z))

    module _ (z : e < count) {c : Counted} {l : List ℕ} (s : placed c l ≡ own_row n own n room elements e 0 count t) where
      pub own_next : {k : ℕ} → c ≡ Ok k → own_from (elements - e) own n room elements e count t ≡ own_from (elements - (e + 1)) own n room elements (e + 1) k l
      unfolding own_from
      own_next q = let d : elements - e ≡ suc (elements - (e + 1)) = omega arith in rw d (simp (lt-ltb _ _ z) (rw (← s, q)))

      pub own_stop : {r : Refusal} → c ≡ Err r → placed c l ≡ own_from (elements - e) own n room elements e count t
      unfolding own_from
      own_stop q = let d : elements - e ≡ suc (elements - (e + 1)) = omega arith in rw d (simp (lt-ltb _ _ z) (rw (← s, q)))

  pub own_end : elements ≤ e → placed (Ok count) t ≡ own_from (elements - e) own n room elements e count t
  unfolding own_from
  own_end h = let d : elements - e ≡ 0 = omega arith in rw d

-- Each answer of the test whether all elements are reached.
module _ (t : List ℕ) (n elements : ℕ) {read : Counted} where
  pub reached_refused : {r : Refusal} → read ≡ Err r → placed read t ≡ reaches_all n elements (placed read t)
  reached_refused q = rw q

  module _ {count : ℕ} (q : read ≡ Ok count) where
    pub reached_whole : elements ≤ count → placed (Ok count) t ≡ reaches_all n elements (placed read t)
    unfolding all_reached
    reached_whole h = rw q (simp (le-leb _ _ h))

    module _ (h : count < elements) where
      pub reached_none : n ≡ 0 → placed (Err (numbered 17 0 0 0)) t ≡ reaches_all n elements (placed read t)
      unfolding all_reached
      reached_none z = rw q (simp (lt-leb _ _ h, eq-eqb n 0 z))

      module _ (z : n ≡ 0 → ⊥) {v : Verdict} (s : v ≡ check8 t n elements) where
        pub reached_missing : {r : Refusal} → v ≡ Err r → placed (Err r) t ≡ reaches_all n elements (placed read t)
        unfolding all_reached
        reached_missing p = rw q (simp (lt-leb _ _ h, ne_eqb n 0 z) (rw (← s, p)))

        pub reached_fine : v ≡ fine → placed (Ok count) t ≡ reaches_all n elements (placed read t)
        unfolding all_reached
        reached_fine p = rw q (simp (lt-leb _ _ h, ne_eqb n 0 z) (rw (← s, p)))

-- Two sources that agree on the rows that may be read are read alike.
module _ (own own' : ℕ → ℕ → ℕ) (n room elements : ℕ) where
  row_agrees : (e : ℕ) → ((g : ℕ) → g < n → own e g ≡ own' e g) → (k g count : ℕ) (t : List ℕ) → g + k ≡ n
      → own_row k own n room elements e g count t ≡ own_row k own' n room elements e g count t
  unfolding own_row
  row_agrees e same zero g count t q = refl
  row_agrees e same (suc k) g count t q =
      rw (same g (omega arith)) (then_same (own_place t n room elements count e g (own' e g)) (λ c l. row_agrees e same k (g + 1) c l (omega arith)))

  pub own_agrees : ((e g : ℕ) → e < elements → g < n → own e g ≡ own' e g) → (k e count : ℕ) (t : List ℕ) → e + k ≡ elements
      → own_from k own n room elements e count t ≡ own_from k own' n room elements e count t
  unfolding own_from
  own_agrees same zero e count t q = refl
  own_agrees same (suc k) e count t q =
      ap (λ (p : Placed). pick (ltb e count) p (placed (Ok count) t))
      (ap (λ (p : Placed). then_placed p (λ c l. own_from k own n room elements (e + 1) c l)) (row_agrees e (λ g h. same e g (omega arith) h) n 0 count t (omega arith))
      ∙ then_same (own_row n own' n room elements e 0 count t) (λ c l. own_agrees same k (e + 1) c l (omega arith)))

-- The whole build: what is read from the copy is what stood in the stretch.
pub own_built : (s w : List ℕ) (n room elements : ℕ) → elements * n ≤ length w → {w₁ t₁ t₂ t₃ w₃ : List ℕ} {read whole c : Counted}
    → w₁ ≡ copied elements s n 0 w → t₁ ≡ zeroed s → placed read t₂ ≡ own_all (copied_step w₁ n) n room elements t₁
    → placed whole t₂ ≡ reaches_all n elements (placed read t₂) → built c t₃ w₃ ≡ finished whole n t₂ w₁
    → built c t₃ w₃ ≡ own_in s w n room elements
unfolding own_in
own_built s w n room elements long {w₁} {t₁} {t₂} {read = read} {whole} a b p q f =
    let same = own_agrees (copied_step (copied elements s n 0 w) n) (stored_at s n) n room elements (copied_at s n elements w long) elements 0 1 (zeroed s) (omega arith) in
    let r : placed read t₂ ≡ own_all (stored_at s n) n room elements (zeroed s) = p ∙ rw (a, b) same in
    f ∙ rw a (ap (λ (x : Placed). finished_placed x n (copied elements s n 0 w)) (q ∙ ap (λ (x : Placed). reaches_all n elements x) r))
