-- `flatten` on paper, with no premise on its arguments; and "more room never changes an accepted table".
use Prim.Native.Nat.{ℕ, ◌+◌, ◌*◌, ◌≤◌}
use mathlib.Core.Path.{◌≡◌, refl, sym, ap, ◌∙◌}
use mathlib.Core.Logic.{◌↔◌, ◌⊎◌, inl, inr, ⊎_elim}
use mathlib.Core.Bool.{Bool, true, false}
use mathlib.Core.List.{List, ◌∷◌}
use native.Mathlib.Nat.{le_refl, mul-le-mul}
use native.Mathlib.Omega.{arith}
use borrow.Author.Tests.{ltb-false}
use lib.ListN.{length, take, replicate}
use lib.Dec.{ltb}
use Rattle.egg.specs.declared.Refusal.{Refusal}
use Rattle.egg.specs.declared.Factor.{Factor}
use Rattle.egg.specs.Answers.{Verdict, fine}
use Rattle.std.specs.Prelude.{Ok, Err}
use Rattle.egg.specs.Table.{pick}
use Rattle.build_reading.specs.Reading.{read_all}
use Rattle.build_lending.specs.Finish.{finished_placed}
use Rattle.build_lending.specs.Lending.{table_need, work_need, lent_right, refused_made, Making, making, lent_back}
use Rattle.egg.specs.Factor.{Paper}
use Rattle.build_reading_laws.proofs.Readings.{refused_number}
use Rattle.build_checks_laws.specs.Numbers.{RefusalIn}
use Rattle.promises_refusals.specs.Papers.{paper_of, paper}
use Rattle.factor_laws.specs.Papers.{value_paper}
use Rattle.promises.specs.Leaves.{composed_numbers}
use Rattle.promises.specs.Papers.{made_paper}
use Rattle.promises.specs.Roomier.{Roomier}
use Rattle.build_laws.proofs.Lent.{by_build, refused_making_lem}
use Rattle.build_laws.proofs.Built.{built_holds}
use Rattle.promises.proofs.Never.{leaves_number}
use Rattle.promises.proofs.Papers.{made_fine}
use Rattle.promises.proofs.Roomier.{built_roomier, lent_roomier, roomier_at}
use Rattle.group_handles.specs.declared.Group.{Group}
use Rattle.group_handles.specs.Handles.{handles, generators_of, all_fit, admits}
use Rattle.group_handles.proofs.Admitted.{goes_on}
use Rattle.group_flatten.specs.Flat.{flat_in, if_making, flat_into, flat}
use Rattle.promises_group.specs.Products.{AllAccepted, AcceptedProduct, direct}
use Rattle.promises_group.specs.Flattening.{FlatRight, Flattens}
use Rattle.promises_group.proofs.FlatExactly as exactly
use Rattle.promises_group.proofs.FlatLeaves.{flat_leaves}
use Rattle.promises_group.proofs.FlatAnswers.{flat_17}

-- An accepted call had right arguments.
module _ (from : List ℕ) (g : Group) (table : List ℕ) (start : ℕ) (work : List ℕ) (room : ℕ) (f : Factor) (t w : List ℕ) where
  abbrev accepted : Making
  accepted = making (Ok f) t w

  abbrev whole : Making
  whole =
      lent_back table start work (generators_of (handles g)) room
      (flat_in (table_need (generators_of (handles g)) room) (take (work_need (generators_of (handles g)) room) work) from (handles g) (generators_of (handles g)) room)

  into_begun : admits (length from) g 0 1 0 1 ≡ fine → flat_into from (handles g) table start work room ≡ accepted → FlatRight from g table start work room
  unfolding flat_into
  into_begun ok e = first (ltb 8 (generators_of (handles g))) refl e where
    second : generators_of (handles g) ≤ 8 → (b : Bool) → lent_right (length table) start (length work) room (generators_of (handles g)) ≡ b
        → pick b whole (making (refused_made 4 0) table work) ≡ accepted → FlatRight from g table start work room
    second few true l h = record { admitted = ok; generators = few; lent = l }
    second few false l h = absurd (refused_making_lem h)

    first : (b : Bool) → ltb 8 (generators_of (handles g)) ≡ b
        → pick b (making (refused_made 1 (generators_of (handles g))) table work)
        (pick (lent_right (length table) start (length work) room (generators_of (handles g))) whole (making (refused_made 4 0) table work)) ≡ accepted
        → FlatRight from g table start work room
    first true l h = absurd (refused_making_lem h)
    first false l h = second (ltb-false 8 (generators_of (handles g)) l) (lent_right (length table) start (length work) room (generators_of (handles g))) refl h

  pub flat_begun : flat from g table start work room ≡ making (Ok f) t w → FlatRight from g table start work room
  unfolding flat
  flat_begun h = by (admits (length from) g 0 1 0 1) refl h where
    by : (v : Verdict) → admits (length from) g 0 1 0 1 ≡ v → if_making v table work (flat_into from (handles g) table start work room) ≡ accepted
        → FlatRight from g table start work room
    by (Ok _) q e = into_begun q e
    by (Err s) q e = absurd (refused_making_lem e)

-- Only these numbers are given, with any handles and buffers.
pub flat_number : (from : List ℕ) (g : Group) (table : List ℕ) (start : ℕ) (work : List ℕ) (room : ℕ) (r : Refusal) (t w : List ℕ)
    → flat from g table start work room ≡ making (Err r) t w → RefusalIn (17 ∷ 15 ∷ 1 ∷ 4 ∷ composed_numbers) r
flat_number from g table start work room r t w h = leaves_number (17 ∷ 15 ∷ 1 ∷ 4 ∷ composed_numbers) refl refl (flat_leaves from g table start work room r t w h)

-- Over factors that are accepted wherever their handles fit: neither 17 in a handle nor 15 is excluded.
module _ (from : List ℕ) (g : Group) (unaltered : all_fit (length from) (handles g) ≡ true → AllAccepted from (handles g)) (table : List ℕ) (start : ℕ)
    (work : List ℕ) (room : ℕ)
  where
    right_product_lem : FlatRight from g table start work room → AcceptedProduct from g
    right_product_lem R =
        let G = goes_on (length from) g 0 1 0 1 refl R.admitted in
        record { factors = unaltered G.fits; within = G.within }

    -- The number is 0 exactly when the arguments are right and the product's numbers are what is accepted.
    pub flat_paper : made_paper (flat from g table start work room) ≡ value_paper 0 ↔ FlatRight from g table start work room × Flattens (direct from g) room
    flat_paper = (
      λ q.
          let (f, t, w, h) = made_fine (17 ∷ 15 ∷ 1 ∷ 4 ∷ composed_numbers) refl (flat from g table start work room) (flat_number from g table start work room) q in
          let R = flat_begun from g table start work room f t w h in
          (R, (exactly.flat_exactly (right_product_lem R) table start work room R).0 (f, t, w, h)),
      λ a.
          let (f, t, w, h) = (exactly.flat_exactly (right_product_lem a.0) table start work room a.0).1 a.1 in
          ap made_paper h,
    )

    -- 17 is given exactly when a handle does not fit: every step can be read.
    pub flat_17_handle : (a b c : ℕ) → paper_of (flat from g table start work room) ≡ paper 17 a b c
        ↔ ((all_fit (length from) (handles g) ≡ false) × ((a ≡ 0) × ((b ≡ 0) × (c ≡ 0))))
    flat_17_handle a b c = (
      λ q.
          let h = (flat_17 from g table start work room a b c).0 q in
          (⊎_elim (λ z. z) (λ u. absurd (not_met u.0 (flat from g table start work room) refl q)) h.0, h.1),
      λ h. (flat_17 from g table start work room a b c).1 (inl h.0, h.1),
    ) where
      never : {k : ℕ} → (k ≡ 7) ⊎ ((k ≡ 5) ⊎ (k ≡ 6)) → k ≡ 17 → ⊥
      never (inl z) q = omega arith
      never (inr (inl z)) q = omega arith
      never (inr (inr z)) q = omega arith

      not_met : FlatRight from g table start work room → (m : Making) → flat from g table start work room ≡ m → paper_of m ≡ paper 17 a b c → ⊥
      not_met R (making (Ok f) t w) e z = omega (arith, ap (λ (p : Paper). p.number) z)
      not_met R (making (Err r) t w) e z =
          never (refused_number ((exactly.flat_stops (right_product_lem R) table start work room R r).0 (t, w, e))) (ap (λ (p : Paper). p.number) z)

module _ {from : List ℕ} {g : Group} (A : AcceptedProduct from g) (table : List ℕ) (start : ℕ) (work : List ℕ) (room : ℕ) where
  module _ (f : Factor) (t w table' : List ℕ) (start' : ℕ) (work' : List ℕ) (room' : ℕ) where
    pub flat_roomier : flat from g table start work room ≡ making (Ok f) t w → room ≤ room'
        → FlatRight from g table' start' work' room'
        → Roomier (direct from g).generators start room f t start' room' (flat from g table' start' work' room')
    flat_roomier h more R' =
        let n : ℕ = (direct from g).generators in
        let src : ℕ → ℕ → ℕ = (direct from g).step in
        let R = flat_begun from g table start work room f t w h in
        let few = exactly.few A table start work room R in
        let lo = exactly.lo A table start work room R in
        let hi = exactly.hi A table start work room R in
        let lent = exactly.work_lent A table start work room R in
        let b = by_build table start work n room (finished_placed (read_all src n room (replicate (table_need n room) 0)) n (take (work_need n room) work))
        (sym (exactly.is_build A table start work room R) ∙ h) in
        let H = built_holds src n room (table_need n room) (take (work_need n room) work) few lo hi (le_refl (table_need n room)) lent b.3.0 in
        let E = built_roomier src n room (table_need n room) (take (work_need n room) work) few lo hi (le_refl (table_need n room)) lent room' (table_need n room')
        (take (work_need n room') work') (exactly.hi A table' start' work' room' R') (le_refl (table_need n room')) (exactly.work_lent A table' start' work' room' R') more
        (mul-le-mul more (le_refl (2 * n + 4))) b.3.0 in
        roomier_at b.3.1.0 b.3.1.1.0
        (lent_roomier table start n room (exactly.has A table start work room R) table' start' work' room' (exactly.has A table' start' work' room' R') more b.1 E.0
        H.size_kept (exactly.is_build A table' start' work' room' R' ∙ ap (lent_back table' start' work' n room') E.1))
