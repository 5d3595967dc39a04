-- Flattening a product of accepted factors is the call on a list of composed numbers, where the list has the product's own steps: so all that is said of
-- that call is said of this one.
use Prim.Native.Nat.{ℕ, zero, suc, ◌+◌, ◌*◌, ◌/◌, ◌%◌, ◌≤◌, ◌<◌}
use mathlib.Core.Path.{◌≡◌, refl, sym, ap, ◌∙◌, subst}
use mathlib.Core.Bool.{Bool, true, false, ◌&&◌}
use mathlib.Core.List.{List}
use native.Mathlib.Nat.{mul_comm, add_comm, le_refl, mul-le-mul_right}
use native.Mathlib.Omega.{arith}
use borrow.Author.Tests.{le-leb, le-ltb, ltb-true}
use lib.ListN.{length, get_or, take, replicate}
use lib.Dec.{ltb}
use Rattle.egg.specs.declared.Factor.{Factor}
use Rattle.std.specs.Prelude.{Ok, Err}
use Rattle.build_lending.specs.Finish.{finished_placed}
use Rattle.build_lending.specs.Lending.{table_need, work_need, lent_right, lent_back}
use Rattle.build_reading.specs.Reading.{Placed, placed, then_placed, read_place, read_row, read_from, read_all, composed_at}
use Rattle.build_reading.proofs.Readings.{then_same}
use Rattle.factor.specs.Composed.{composed_in, composed}
use Rattle.theory_products.specs.Product.{product}
use Rattle.theory_radix.proofs.RadixLaws.{low, high}
use Rattle.group_handles.specs.declared.Group.{Group}
use Rattle.group_handles.specs.Handles.{handles, elements_of, generators_of}
use Rattle.group_digits.specs.Digits.{step_in}
use Rattle.group_flatten.specs.Flat.{row_by, rows_by, flat_in, flat_into, flat}
use Rattle.group_digits.proofs.Walks.{steps_below}
use Rattle.group_flatten.proofs.Flats.{Counts, counts, refuses, row_counts}
use Rattle.group_handles.proofs.Admitted.{admits_fine}
use Rattle.promises_group.specs.Products.{parts, AllAccepted, AcceptedProduct, direct, listed, step_rows}
use Rattle.promises_group.proofs.Parts.{all_fit_lem, parts_elements, parts_generators, steps_are}

listed_length : (m : ℕ) (f : ℕ → ℕ) → length (listed m f) ≡ m
listed_length zero f = refl
listed_length (suc m) f = ap suc (listed_length m (λ i. f (suc i)))

listed_at : (m : ℕ) (f : ℕ → ℕ) (i : ℕ) → i < m → get_or (listed m f) i 0 ≡ f i
listed_at zero f i h = absurd (omega arith)
listed_at (suc m) f zero h = refl
listed_at (suc m) f (suc i) h = listed_at m (λ i. f (suc i)) i (omega arith)

pub row_at : (step : ℕ → ℕ → ℕ) (n room e g : ℕ) → e < room → g < n → composed_at (step_rows step n room) n e g ≡ step e g
row_at step n room e g he hg =
    let q : e * n + g ≡ g + n * e = add_comm (e * n) g ∙ ap (λ (x : ℕ). g + x) (mul_comm e n) in
    let k : suc e ≤ room = omega arith in
    let l : e * n + g < room * n = omega (arith, mul-le-mul_right n k) in
    listed_at (room * n) (λ i. step (i / n) (i % n)) (e * n + g) l ∙ rw (q, low hg e, high hg e)

then_within : {M : ℕ} (p : Placed) {f f' : ℕ → List ℕ → Placed} → Counts M p → ((c : ℕ) (t : List ℕ) → c ≤ M → f c t ≡ f' c t) → then_placed p f ≡ then_placed p f'
then_within (placed (Ok k) t) (counts h) q = q k t h
then_within (placed (Err r) t) refuses q = refl

-- Reading by the product's own answers is reading from any source that has its steps.
module _ (from : List ℕ) {hs : List Factor} (As : AllAccepted from hs) (n room : ℕ) (gens : n ≡ (product (parts from hs)).generators)
    (src : ℕ → ℕ → ℕ) (is : (e g : ℕ) → e < room → g < n → src e g ≡ (product (parts from hs)).step e g)
  where
    row_same : (k e g count : ℕ) (t : List ℕ) → e < (product (parts from hs)).elements → e < room → g + k ≤ n
        → row_by k (step_in from hs) n room e g count t ≡ read_row k src n room e g count t
    unfolding row_by read_row
    row_same zero e g count t he hr hk = refl
    row_same (suc k) e g count t he hr hk =
        let hg : g < n = omega arith in
        let hx : g < (product (parts from hs)).generators = subst (λ (m : ℕ). g < m) gens hg in
        rw (steps_are from As e g he hx, is e g hr hg)
        (then_same (read_place t n room count e g ((product (parts from hs)).step e g)) (λ c l. row_same k e (g + 1) c l he hr (omega arith)))

    rows_same : (k e count : ℕ) (t : List ℕ) → e + k ≤ room → count ≤ (product (parts from hs)).elements
        → rows_by k (step_in from hs) n room e count t ≡ read_from k src n room e count t
    unfolding rows_by read_from
    rows_same zero e count t hk hc = refl
    rows_same (suc k) e count t hk hc =
        by (λ c l h. rows_same k (e + 1) c l (omega arith) h) (ltb e count) refl
      where
        by : ((c : ℕ) (l : List ℕ) → c ≤ (product (parts from hs)).elements → rows_by k (step_in from hs) n room (e + 1) c l ≡ read_from k src n room (e + 1) c l)
            → (b : Bool) → ltb e count ≡ b
            → rows_by (suc k) (step_in from hs) n room e count t ≡ read_from (suc k) src n room e count t
        by i false q = rw q
        by i true q =
            let he : e < (product (parts from hs)).elements = omega (arith, ltb-true e count q) in
            let hm : e < elements_of hs = subst (λ (m : ℕ). e < m) (parts_elements from hs) he in
            let hd : count ≤ elements_of hs = subst (λ (m : ℕ). count ≤ m) (parts_elements from hs) hc in
            rw (q, ← row_same n e 0 count t he (omega arith) (omega arith))
            (then_within (row_by n (step_in from hs) n room e 0 count t)
            (row_counts {M = elements_of hs} (step_in from hs) n room e (λ x. steps_below from hs e x hm) n 0 count t hd)
            (λ c l h. i c l (subst (λ (m : ℕ). c ≤ m) (sym (parts_elements from hs)) h)))

    pub flat_in_read : (size : ℕ) (w : List ℕ) → 0 < (product (parts from hs)).elements
        → flat_in size w from hs n room ≡ finished_placed (read_all src n room (replicate size 0)) n w
    unfolding flat_in
    flat_in_read size w h = ap (λ (p : Placed). finished_placed p n w) (rows_same room 0 1 (replicate size 0) (omega arith) h)

both_true : (a : Bool) {b : Bool} → b ≡ true → a && b ≡ a
both_true true q = q
both_true false q = refl

module _ {from : List ℕ} {g : Group} (A : AcceptedProduct from g) (table : List ℕ) (start : ℕ) (work : List ℕ) (room : ℕ) (some : 0 < (direct from g).elements) where
  into : flat_into from (handles g) table start work room
      ≡ composed table start work (step_rows (direct from g).step (generators_of (handles g)) room) (generators_of (handles g)) room
  unfolding flat_into composed composed_in
  into =
      let n : ℕ = generators_of (handles g) in
      let rows : List ℕ = step_rows (direct from g).step (generators_of (handles g)) room in
      let is : (e x : ℕ) → e < room → x < n → composed_at rows n e x ≡ (direct from g).step e x = λ e x. row_at (direct from g).step n room e x in
      let long : room * n ≤ length rows = subst (λ (m : ℕ). room * n ≤ m) (sym (listed_length (room * n) (λ i. (direct from g).step (i / n) (i % n)))) (le_refl (room * n)) in
      rw (
        both_true (lent_right (length table) start (length work) room n) (le-leb (room * n) (length rows) long),
        flat_in_read from A.factors n room (sym (parts_generators from (handles g))) (composed_at rows n) is (table_need n room) (take (work_need n room) work) some,
      )

  pub flat_composed : flat from g table start work room
      ≡ composed table start work (step_rows (direct from g).step (generators_of (handles g)) room) (generators_of (handles g)) room
  unfolding flat
  flat_composed =
      rw (← admits_fine (length from) g 0 1 0 1 (all_fit_lem from A.factors) (omega arith) (omega arith) A.within) into

  -- With right arguments it is a build whose source is the product's step.
  pub flat_is_build : generators_of (handles g) ≤ 8 → lent_right (length table) start (length work) room (generators_of (handles g)) ≡ true
      → flat from g table start work room
      ≡ lent_back table start work (generators_of (handles g)) room (finished_placed
      (read_all (direct from g).step (generators_of (handles g)) room (replicate (table_need (generators_of (handles g)) room) 0))
      (generators_of (handles g)) (take (work_need (generators_of (handles g)) room) work))
  unfolding flat flat_into
  flat_is_build few lent =
      let n : ℕ = generators_of (handles g) in
      rw (
        ← admits_fine (length from) g 0 1 0 1 (all_fit_lem from A.factors) (omega arith) (omega arith) A.within,
        le-ltb 8 n few,
        lent,
        flat_in_read from A.factors n room (sym (parts_generators from (handles g))) (direct from g).step (λ e x he hx. refl) (table_need n room)
            (take (work_need n room) work) some,
      )
