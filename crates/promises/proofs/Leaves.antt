-- What a refused call leaves: with wrong arguments both buffers as they were, else zeros in the needed stretches and everything else as it was.
use Rattle.egg.specs.Answers.{Made, Verdict}
use Prim.Native.Nat.{ℕ, ◌+◌, ◌*◌}
use mathlib.Core.Path.{◌≡◌, refl, sym, ap, ◌∙◌, subst}
use mathlib.Core.Logic.{◌⊎◌, inl, inr, ⊎_elim}
use mathlib.Core.Bool.{Bool, true, false, ◌&&◌}
use mathlib.Core.List.{List, [], ◌∷◌}
use native.Mathlib.Nat.{le_refl}
use native.Mathlib.Omega.{arith}
use borrow.Author.Tests.{le-leb, leb-true, ltb-true, ltb-false}
use lib.Dec.{leb, ltb}
use lib.ListN.{length, take}
use Rattle.egg.specs.declared.Factor.{Factor}
use Rattle.egg.specs.declared.Refusal.{Refusal}
use Rattle.egg.specs.Refusals.{numbered, refusal_paper}
use Rattle.std.specs.Prelude.{Ok, Err}
use Rattle.egg.specs.Table.{pick}
use Rattle.egg.specs.Pairs.{orders_right}
use Rattle.egg.specs.Factor.{has_room, fits_in}
use Rattle.egg.proofs.Rooms.{false_true, and_first, and_second, within_length, positive, limited}
use Rattle.egg.proofs.Scans.{refused_fine}
use Rattle.build_lending.specs.Finish.{Built, built}
use Rattle.build_lending.specs.Lending.{table_need, work_need, lent_right, within, no_factor, refused_made, Making, making, lent_back}
use Rattle.build_lending.proofs.Lending.{lent_table_lem, lent_enough}
use Rattle.factor.specs.Composed.{composed_in, composed}
use Rattle.build_reading.specs.Reading.{composed_at}
use Rattle.enumeration.specs.Calls.{enumerated_in, refused_making, enumerates}
use Rattle.build_checks_laws.specs.Numbers.{member, RefusalIn}
use Rattle.build_checks_laws.proofs.Numbers.{each_in, orders_number}
use Rattle.promises.specs.Composed.{RowsRight}
use Rattle.promises.specs.Enumerated.{EnumerationRight}
use Rattle.promises.specs.Leaves.{Leaves, untouched, zeros, lent_for, composed_numbers, enumeration_numbers}
use Rattle.build_laws.proofs.Lent.{refused_making_lem, work_taken}
use Rattle.enumeration.proofs.Calls.{limits}
use Rattle.promises.proofs.Zeros.{Zeros, read_zeros, enumerated_zeros}

-- Two refusals that are the same.
same_refusal : {s r : Refusal} {t₀ t w₀ w : List ℕ} → making (Err s) t₀ w₀ ≡ making (Err r) t w → (s ≡ r) × (t ≡ t₀) × (w ≡ w₀)
same_refusal {s} {r} h =
    let m : ◌≡◌ {A = Made} (Err s) (Err r) = cc in
    (cc, cc, cc)

-- A refused call: refused for its arguments, with both buffers as they were, or a refused build that was put back into its stretches.
pub record Early (right : Type 0) (l : List ℕ) (table work : List ℕ) (r : Refusal) (t w : List ℕ) : Type 0 where
  pub wrong : ¬ right
  pub number : RefusalIn l r
  pub table_same : t ≡ table
  pub work_same : w ≡ work

pub record Late (table : List ℕ) (start : ℕ) (work : List ℕ) (n room : ℕ) (b : Built) (r : Refusal) (t w : List ℕ) : Type 0 where
  pub stretch_table : List ℕ
  pub stretch_work : List ℕ
  pub is : b ≡ built (Err r) stretch_table stretch_work
  pub table_put : t ≡ within table start (start + table_need n room) stretch_table
  pub work_put : w ≡ within work 0 (work_need n room) stretch_work

module _ (table : List ℕ) (start : ℕ) (work : List ℕ) (n room : ℕ) where
  pub early : {right : Type 0} (l : List ℕ) {s r : Refusal} {t w : List ℕ} → ¬ right → RefusalIn l s
      → making (Err s) table work ≡ making (Err r) t w
      → Early right l table work r t w
  early l not_right m q = let a = same_refusal q in record { wrong = not_right; number = rw a.0 at m; table_same = a.1; work_same = a.2 }

  pub late : (b : Built) {r : Refusal} {t w : List ℕ}
      → lent_back table start work n room b ≡ making (Err r) t w → Late table start work n room b r t w
  late (built (Ok N) s v) q = absurd (refused_making_lem (sym q))
  late (built (Err x) s v) q =
      let a = same_refusal q in
      record {
        stretch_table = s;
        stretch_work = v;
        is = ap (λ (x : Refusal). built (Err x) s v) a.0;
        table_put = a.1;
        work_put = a.2;
      }

  -- What both leave.
  pub leaves_early : {right : Type 0} {l : List ℕ} (after : List ℕ) {r : Refusal} {t w : List ℕ} → Early right l table work r t w
      → Leaves right l after (lent_for table start work n room t w) r
  leaves_early after E = untouched E.wrong E.number (E.table_same, (E.work_same, tt))

  pub leaves_late : {right : Type 0} (before : List ℕ) {l : List ℕ} {b : Built} {r : Refusal} {t w : List ℕ} → right
      → lent_right (length table) start (length work) room n ≡ true → (B : Late table start work n room b r t w)
      → Zeros r l (table_need n room) (work_need n room) B.stretch_table B.stretch_work → Leaves right before l (lent_for table start work n room t w) r
  leaves_late before ok lent B z =
      let end : 0 + work_need n room ≡ work_need n room = omega arith in
      zeros ok z.number (
        record { inside = within_length (length table) start room n (lent_table_lem (length table) start (length work) room n lent); zero = B.table_put ∙ rw z.table },
        (record { inside = rw end (leb-true _ _ (lent_enough (length table) start (length work) room n lent)); zero = B.work_put ∙ rw (z.work, end) }, tt),
      )

-- The call on composed rows.
module _ (table : List ℕ) (start : ℕ) (work rows : List ℕ) (n room : ℕ) (r : Refusal) (t w : List ℕ) where
  abbrev rows_build : Built
  rows_build = composed_in (table_need n room) (take (work_need n room) work) rows n room

  abbrev refused : Making
  refused = making (Err r) t w

  pub composed_refused : composed table start work rows n room ≡ making (Err r) t w
      → Early (RowsRight table start work rows n room) (1 ∷ 4 ∷ []) table work r t w
      ⊎ (RowsRight table start work rows n room × Late table start work n room (composed_in (table_need n room) (take (work_need n room) work) rows n room) r t w)
  unfolding composed
  composed_refused h = first (ltb 8 n) refl h where
    Told : Type 0
    Told = Early (RowsRight table start work rows n room) (1 ∷ 4 ∷ []) table work r t w
        ⊎ (RowsRight table start work rows n room × Late table start work n room rows_build r t w)

    short : lent_right (length table) start (length work) room n && leb (room * n) (length rows) ≡ false → ¬ (RowsRight table start work rows n room)
    short l R = false_true (sym l ∙ simp (R.lent, le-leb _ _ R.listed))

    second : (b : Bool) → ltb 8 n ≡ false → lent_right (length table) start (length work) room n && leb (room * n) (length rows) ≡ b
        → pick b (lent_back table start work n room rows_build) (making (refused_made 4 0) table work) ≡ refused → Told
    second true g l e = inr (
      record {
        generators = ltb-false 8 n g;
        lent = and_first (lent_right (length table) start (length work) room n) _ l;
        listed = leb-true _ _ (and_second (lent_right (length table) start (length work) room n) _ l);
      },
      late table start work n room rows_build e,
    )
    second false g l e = inl (early table start work n room (1 ∷ 4 ∷ []) {s = numbered 4 0 0 0} (short l) refl e)

    first : (a : Bool) → ltb 8 n ≡ a
        → pick a (making (refused_made 1 n) table work)
        (pick (lent_right (length table) start (length work) room n && leb (room * n) (length rows)) (lent_back table start work n room rows_build) (making (refused_made 4 0) table work)) ≡ refused
        → Told
    first true g e =
        inl (early table start work n room (1 ∷ 4 ∷ []) {s = numbered 1 n 0 0} (λ R. omega (arith, R.generators, ltb-true 8 n g)) refl e)
    first false g e = second (lent_right (length table) start (length work) room n && leb (room * n) (length rows)) g refl e

  rows_zeros : RowsRight table start work rows n room → (B : Late table start work n room rows_build r t w)
      → Zeros r composed_numbers (table_need n room) (work_need n room) B.stretch_table B.stretch_work
  unfolding composed_in
  rows_zeros R B =
      let has : has_room (length table) start room n ≡ true = lent_table_lem (length table) start (length work) room n R.lent in
      subst (λ (k : ℕ). Zeros r composed_numbers (table_need n room) k B.stretch_table B.stretch_work) (work_taken table start work n room R.lent)
      (read_zeros (composed_at rows n) n room (table_need n room) (take (work_need n room) work) R.generators (positive (length table) start room n has)
      (limited (length table) start room n has) (le_refl (table_need n room)) B.is)

  pub composed_leaves : composed table start work rows n room ≡ making (Err r) t w
      → Leaves (RowsRight table start work rows n room) (1 ∷ 4 ∷ []) composed_numbers (lent_for table start work n room t w) r
  composed_leaves h = ⊎_elim (λ E. leaves_early table start work n room composed_numbers E)
      (λ B. leaves_late table start work n room (1 ∷ 4 ∷ []) B.0 B.0.lent B.1 (rows_zeros B.0 B.1)) (composed_refused h)

  -- No factor comes with a refusal.
  pub composed_no_factor : composed table start work rows n room ≡ making (Err r) t w
      → (f : Factor) {t' w' : List ℕ} → composed table start work rows n room ≡ making (Ok f) t' w' → ⊥
  composed_no_factor h f q = refused_making_lem (sym h ∙ q)

-- The enumeration.
module _ (table : List ℕ) (start : ℕ) (work orders : List ℕ) (n room : ℕ) (r : Refusal) (t w : List ℕ) where
  abbrev orders_build : Built
  orders_build = enumerated_in (table_need n room) (work_need n room) orders n room

  abbrev refusal : Making
  refusal = making (Err r) t w

  pub enumeration_refused : enumerates table start work orders n room ≡ making (Err r) t w
      → Early (EnumerationRight table start work orders n room) (1 ∷ 2 ∷ 3 ∷ 4 ∷ []) table work r t w
      ⊎ (EnumerationRight table start work orders n room × Late table start work n room (enumerated_in (table_need n room) (work_need n room) orders n room) r t w)
  unfolding enumerates
  enumeration_refused h = first (ltb 8 n) refl h where
    Told : Type 0
    Told = Early (EnumerationRight table start work orders n room) (1 ∷ 2 ∷ 3 ∷ 4 ∷ []) table work r t w
        ⊎ (EnumerationRight table start work orders n room × Late table start work n room orders_build r t w)

    third : (v : Verdict) → orders_right orders n ≡ v → ltb 8 n ≡ false → (b : Bool) → lent_right (length table) start (length work) room n ≡ b
        → refused_making v table work (pick b (lent_back table start work n room orders_build) (making (refused_made 4 0) table work)) ≡ refusal → Told
    third (Ok _) o g true l e = inr (record { generators = ltb-false 8 n g; right = o; lent = l }, late table start work n room orders_build e)
    third (Ok _) o g false l e =
        inl (early table start work n room (1 ∷ 2 ∷ 3 ∷ 4 ∷ []) {s = numbered 4 0 0 0} (λ R. false_true (sym l ∙ R.lent)) refl e)
    third (Err s) o g b l e =
        inl (early table start work n room (1 ∷ 2 ∷ 3 ∷ 4 ∷ []) {s = s} (λ R. refused_fine (sym o ∙ R.right))
        (each_in (λ x. member x (1 ∷ 2 ∷ 3 ∷ 4 ∷ [])) (refusal_paper s).number (2 ∷ 3 ∷ []) refl (orders_number orders n o)) e)

    first : (a : Bool) → ltb 8 n ≡ a
        → pick a (making (refused_made 1 n) table work)
        (refused_making (orders_right orders n) table work
        (pick (lent_right (length table) start (length work) room n) (lent_back table start work n room orders_build) (making (refused_made 4 0) table work))) ≡ refusal → Told
    first true g e =
        inl (early table start work n room (1 ∷ 2 ∷ 3 ∷ 4 ∷ []) {s = numbered 1 n 0 0} (λ R. omega (arith, R.generators, ltb-true 8 n g)) refl e)
    first false g e = third (orders_right orders n) refl g (lent_right (length table) start (length work) room n) refl e

  orders_zeros : EnumerationRight table start work orders n room → (B : Late table start work n room orders_build r t w)
      → Zeros r enumeration_numbers (table_need n room) (work_need n room) B.stretch_table B.stretch_work
  orders_zeros R B =
      enumerated_zeros orders n room (table_need n room) (work_need n room) (limits table start work orders n room R.generators R.right R.lent) R.right B.is

  pub tested_leaves : enumerates table start work orders n room ≡ making (Err r) t w
      → Leaves (EnumerationRight table start work orders n room) (1 ∷ 2 ∷ 3 ∷ 4 ∷ []) enumeration_numbers (lent_for table start work n room t w) r
  tested_leaves h = ⊎_elim (λ E. leaves_early table start work n room enumeration_numbers E)
      (λ B. leaves_late table start work n room (1 ∷ 2 ∷ 3 ∷ 4 ∷ []) B.0 B.0.lent B.1 (orders_zeros B.0 B.1)) (enumeration_refused h)

  -- No factor comes with a refusal.
  pub enumeration_no_factor : enumerates table start work orders n room ≡ making (Err r) t w
      → (f : Factor) {t' w' : List ℕ} → enumerates table start work orders n room ≡ making (Ok f) t' w' → ⊥
  enumeration_no_factor h f q = refused_making_lem (sym h ∙ q)

-- No factor fits no buffer: every question about it is refused by 17.
pub no_factor_fits : (len : ℕ) → fits_in len no_factor ≡ false
unfolding fits_in
no_factor_fits len = refl
