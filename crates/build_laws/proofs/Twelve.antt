-- A build from the numbers of a source in its stretches: refused by 12 exactly when reading and 8 to 11 pass and no group has these right steps.
use Prim.Native.Nat.{ℕ, ◌+◌, ◌*◌, ◌≤◌}
use mathlib.Core.Path.{◌≡◌, refl, sym, ap, subst}
use mathlib.Core.Logic.{◌↔◌, ◌⊎◌, inl, inr}
use mathlib.Core.List.{List}
use native.Mathlib.Omega.{arith}
use lib.ListN.{length, replicate}
use Rattle.egg.specs.declared.Refusal.{Refusal}
use Rattle.egg.specs.Refusals.{numbered, refusal_paper}
use Rattle.std.specs.Prelude.{Ok, Err}
use Rattle.egg.specs.Table.{back_of}
use Rattle.build_checks.specs.Checks.{Checked, checked, check_group}
use Rattle.build_lending.specs.Finish.{built, zeroed, settled_by, finished, finished_placed}
use Rattle.build_lending.proofs.Finishing.{refused_counted}
use Rattle.build_lending.specs.Lending.{work_need}
use Rattle.build_reading.specs.Reading.{Placed, placed, read_all}
use Rattle.theory.specs.Table.{Columns}
use Rattle.theory.specs.Appearance.{recorded}
use Rattle.theory.specs.Group.{RightRegular}
use Rattle.theory.proofs.AnyCarrier.{any_carrier}
use Rattle.theory.proofs.Counting.{numbered_table}
use Rattle.theory.proofs.FirstPlaces.{first_parents}
use Rattle.build_checks_laws.specs.Until12.{Until12}
use Rattle.build_checks_laws.proofs.Tests.{table_fine, check8_fine}
use Rattle.build_checks_laws.proofs.Refused.{before_12, places_12, refused_12}
use Rattle.build_reading_laws.specs.Read.{Read}
use Rattle.build_reading_laws.proofs.Readings.{accepted_read, refused_read, refused_number, readable_accepted, read_readable}
use Rattle.build_laws.specs.Taken.{Groupless}
use Rattle.build_reading_laws.proofs.Storing.{read_recorded, words_stored, read_columns}
use Rattle.build_laws.proofs.Built.{work_enough, rows_fit}

-- A refused build has a refused reading or a refused check.
abbrev pub CheckRefused : Placed → ℕ → List ℕ → Refusal → Type 0
CheckRefused p n w r =
    (N : ℕ) × (t₀ : List ℕ) × (t₁ : List ℕ) × (w₁ : List ℕ) × (p ≡ placed (Ok N) t₀) × (check_group t₀ w n N ≡ checked (Err r) t₁ w₁)

pub check_refused : (n c : ℕ) {r : Refusal} {t w₁ : List ℕ} (k : Checked) → settled_by n c k ≡ built (Err r) t w₁
    → (t₁ : List ℕ) × (w₂ : List ℕ) × (k ≡ checked (Err r) t₁ w₂)
check_refused n c (checked (Ok _) t₁ w₂) q = absurd (refused_counted (sym q))
check_refused n c {r} (checked (Err s) t₁ w₂) q = let e : s ≡ r = cc in (t₁, w₂, cc)

pub build_refused : (p : Placed) (n : ℕ) (w : List ℕ) {r : Refusal} {t w₁ : List ℕ} → finished_placed p n w ≡ built (Err r) t w₁
    → ((t₀ : List ℕ) × (p ≡ placed (Err r) t₀)) ⊎ CheckRefused p n w r
unfolding finished
build_refused (placed (Ok c) t₀) n w q = let b = check_refused n c (check_group t₀ w n c) q in inr (c, t₀, b.0, b.1, refl, b.2)
build_refused (placed (Err s) t₀) n w {r} q = let e : s ≡ r = cc in inl (t₀, ap (λ (x : Refusal). placed (Err x) t₀) e)

pub refused_build : {p : Placed} (n : ℕ) {N : ℕ} (w : List ℕ) {r : Refusal} {t₀ t₁ w₁ : List ℕ} → p ≡ placed (Ok N) t₀
    → check_group t₀ w n N ≡ checked (Err r) t₁ w₁ → finished_placed p n w ≡ built (Err r) (zeroed t₁) (zeroed w₁)
unfolding finished
refused_build n w a b = rw (a, b)

pub refused_reading : {p : Placed} (n : ℕ) (w : List ℕ) {r : Refusal} {t₀ : List ℕ} → p ≡ placed (Err r) t₀
    → finished_placed p n w ≡ built (Err r) (zeroed t₀) (zeroed w)
unfolding finished
refused_reading n w a = rw a

-- Reading refuses by another number.
reading_earlier : {k : ℕ} → (k ≡ 7) ⊎ ((k ≡ 5) ⊎ (k ≡ 6)) → k ≡ 12 → ⊥
reading_earlier (inl a) q = omega arith
reading_earlier (inr (inl a)) q = omega arith
reading_earlier (inr (inr a)) q = omega arith

module _ (src : ℕ → ℕ → ℕ) (n room size : ℕ) (w : List ℕ) (few : n ≤ 8) (least : 1 ≤ room) (most : room ≤ 65535) (fits : room * (2 * n + 4) ≤ size)
    (work : work_need n room ≤ length w) where
  -- The checks' 12 after this reading.
  read_12 : {N : ℕ} {t₀ : List ℕ} {back : ℕ → ℕ → ℕ} → Read src n room size N t₀ → Columns n N src back
      → ((r : Refusal) × (t₁ : List ℕ) × (w₁ : List ℕ) × (check_group t₀ w n N ≡ checked (Err r) t₁ w₁) × ((refusal_paper r).number ≡ 12))
      ↔ (Until12 n N src back (recorded n src) × (RightRegular n N src → ⊥))
  read_12 R C =
      refused_12 few (omega (arith, R.within)) (rows_fit src n room size w few least most fits work R.within R.whole) (words_stored R C)
      (numbered_table R.by_rule) (first_parents R.appearance) (read_recorded R) C (λ e he. (read_readable R).short he) w
      (work_enough src n room size w few least most fits work R.within)

  -- So what they refused by 12 is no group's.
  checked_12 : {N : ℕ} {t₀ : List ℕ} {r : Refusal} {t₁ w₁ : List ℕ} → Read src n room size N t₀
      → check_group t₀ w n N ≡ checked (Err r) t₁ w₁ → (refusal_paper r).number ≡ 12
      → (r ≡ numbered 12 0 0 0) × Groupless src n room N
  checked_12 {N} {t₀} {r} {t₁} {w₁} R h number =
      let B = before_12 t₀ w n N h number in
      let C = read_columns R ((check8_fine t₀ n N).0 ((table_fine t₀ n N).0 B.table).0).1 in
      let u = (read_12 R C).0 (r, t₁, w₁, h, number) in (
        places_12 t₀ w n N h number,
        record { readable = read_readable R; back = back_of t₀ n; until_12 = u.0; no_group_lem = λ g. u.1 (any_carrier.0 g) },
      )

  -- And reading refuses by no 12.
  either_12 : {r : Refusal}
      → ((t₀ : List ℕ) × (read_all src n room (replicate size 0) ≡ placed (Err r) t₀))
      ⊎ CheckRefused (read_all src n room (replicate size 0)) n w r
      → (refusal_paper r).number ≡ 12 → (r ≡ numbered 12 0 0 0) × ((N : ℕ) × Groupless src n room N)
  either_12 (inl (t₀, q)) number = absurd (reading_earlier (refused_number (refused_read src n room size few least most fits q)) number)
  either_12 (inr (N, t₀, t₁, w₁, q, h)) number =
      let a = checked_12 (accepted_read src n room size few least most fits q) h number in (a.0, (N, a.1))

  pub built_12 : {r : Refusal} {t w₁ : List ℕ} → finished_placed (read_all src n room (replicate size 0)) n w ≡ built (Err r) t w₁ → (refusal_paper r).number ≡ 12
      → (r ≡ numbered 12 0 0 0) × ((N : ℕ) × Groupless src n room N)
  built_12 q number = either_12 (build_refused (read_all src n room (replicate size 0)) n w q) number

  pub groupless_built : {N : ℕ} → Groupless src n room N
      → (t : List ℕ) × (w₁ : List ℕ) × (finished_placed (read_all src n room (replicate size 0)) n w ≡ built (Err (numbered 12 0 0 0)) t w₁)
  groupless_built {N} G =
      let a = readable_accepted src n room size few least most fits G.readable in
      let R = accepted_read src n room size few least most fits a.1 in
      let b = (read_12 R G.until_12.predecessors).1 (G.until_12, λ g. G.no_group_lem (any_carrier.1 g)) in
      let e = places_12 a.0 w n N b.3 b.4 in (
        zeroed b.1,
        zeroed b.2,
        refused_build n w a.1 (subst (λ (r : Refusal). check_group a.0 w n N ≡ checked (Err r) b.1 b.2) e b.3),
      )
