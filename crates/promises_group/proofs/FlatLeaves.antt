-- What a refused `flatten` leaves, whatever the handles and the buffers: a refusal of its arguments nothing, any refusal after its start zeros in the needed
-- stretches and all else as it was.
use Prim.Native.Nat.{ℕ, ◌+◌, ◌*◌, ◌≤◌}
use mathlib.Core.Path.{◌≡◌, refl, sym, ◌∙◌, subst}
use mathlib.Core.Bool.{Bool, true, false}
use mathlib.Core.List.{List}
use native.Mathlib.Nat.{le_refl}
use native.Mathlib.Omega.{arith}
use borrow.Author.Tests.{ltb-true, ltb-false}
use lib.ListN.{length, take, replicate}
use lib.Dec.{ltb}
use Rattle.egg.specs.declared.Refusal.{Refusal}
use Rattle.egg.specs.declared.Factor.{Factor}
use Rattle.egg.specs.Answers.{Verdict, fine}
use Rattle.std.specs.Prelude.{Ok, Err}
use Rattle.egg.specs.Table.{pick}
use Rattle.egg.specs.Factor.{has_room}
use Rattle.egg.proofs.Rooms.{positive, limited, false_true}
use Rattle.egg.specs.Answers.{numbered}
use Rattle.build_lending.specs.Finish.{built, zeroed}
use Rattle.build_lending.specs.Lending.{table_need, work_need, lent_right, refused_made, Making, making, lent_back}
use Rattle.build_lending.proofs.Lending.{lent_table_lem}
use Rattle.build_checks_laws.specs.Numbers.{RefusalIn}
use Rattle.promises.specs.Leaves.{Leaves, lent_for}
use Rattle.build_laws.proofs.Lent.{work_taken}
use Rattle.promises.proofs.Zeros.{Zeros, zeros_widen, read_zeros}
use Rattle.promises.proofs.Leaves.{early, late, leaves_early, leaves_late}
use Rattle.group_handles.specs.declared.Group.{Group}
use Rattle.group_handles.specs.Handles as handling
use Rattle.group_handles.specs.Handles.{handles, generators_of, all_fit, admits}
use Rattle.group_flatten.specs.Flat.{flat_in, if_making, flat_into, flat}
use Rattle.promises_group.specs.Flattening.{FlatRight, flat_before, flat_after, step_number}
use Rattle.promises_group.proofs.FlatReads.{Reads, by_numbers, not_read, reads}

-- A refused build leaves zeros.
module _ (from : List ℕ) (hs : List Factor) (room size : ℕ) (w₀ : List ℕ) (few : generators_of hs ≤ 8) (lo : 1 ≤ room) (hi : room ≤ 65535)
    (fits : room * (2 * generators_of hs + 4) ≤ size)
  where
    flat_zeros : {r : Refusal} {t w : List ℕ} → flat_in size w₀ from hs (generators_of hs) room ≡ built (Err r) t w → Zeros r flat_after size (length w₀) t w
    flat_zeros {r} {t} {w} h = by (reads from hs room size w₀ lo hi) where
      by : Reads from hs room size w₀ → Zeros r flat_after size (length w₀) t w
      by (by_numbers e own) = zeros_widen flat_after refl (read_zeros (step_number from hs) (generators_of hs) room size w₀ few lo hi fits (sym e ∙ h))
      by (not_read x g t₀ s q e) =
          let z : built (Err (numbered 17 0 0 0)) (replicate size 0) (zeroed w₀) ≡ built (Err r) t w = sym e ∙ h in
          let j : numbered 17 0 0 0 ≡ r = cc in
          let a : t ≡ replicate size 0 = cc in
          let b : w ≡ zeroed w₀ = cc in
          record { number = rw (← j); table = a; work = b }

-- 17 and 15, before anything else.
admits_number : (len : ℕ) (g : Group) {r : Refusal} → admits len g 0 1 0 1 ≡ Err r → RefusalIn flat_before r
unfolding admits
admits_number len g {r} q = by (all_fit len (handles g)) (handling.limited g) q where
  by : (a b : Bool) → pick a (pick b fine (Err (numbered 15 0 0 0))) (Err (numbered 17 0 0 0)) ≡ Err r
      → RefusalIn flat_before r
  by false b h = let e : numbered 17 0 0 0 ≡ r = cc in rw (← e)
  by true false h = let e : numbered 15 0 0 0 ≡ r = cc in rw (← e)
  by true true h = let z : ◌≡◌ {A = ℕ} 0 1 = cc in absurd (omega arith)

fine_refused : {r : Refusal} → fine ≡ Err r → ⊥
fine_refused q = let z : ◌≡◌ {A = ℕ} 0 1 = cc in omega arith

module _ (from : List ℕ) (g : Group) (table : List ℕ) (start : ℕ) (work : List ℕ) (room : ℕ) (r : Refusal) (t w : List ℕ) where
  abbrev n : ℕ
  n = generators_of (handles g)

  abbrev refused : Making
  refused = making (Err r) t w

  abbrev Claim : Type 0
  Claim = Leaves (FlatRight from g table start work room) flat_before flat_after (lent_for table start work n room t w) r

  refuses : {s : Refusal} → ¬ (FlatRight from g table start work room) → RefusalIn flat_before s
      → making (Err s) table work ≡ refused → Claim
  refuses wrong i e = leaves_early table start work n room flat_after (early table start work n room flat_before wrong i e)

  built_leaves : FlatRight from g table start work room
      → lent_back table start work n room (flat_in (table_need n room) (take (work_need n room) work) from (handles g) n room) ≡ refused → Claim
  built_leaves R e =
      let B = late table start work n room (flat_in (table_need n room) (take (work_need n room) work) from (handles g) n room) e in
      let has : has_room (length table) start room n ≡ true = lent_table_lem (length table) start (length work) room n R.lent in
      leaves_late table start work n room flat_before R R.lent B
      (subst (λ (k : ℕ). Zeros r flat_after (table_need n room) k B.stretch_table B.stretch_work) (work_taken table start work n room R.lent)
      (flat_zeros from (handles g) room (table_need n room) (take (work_need n room) work) R.generators (positive (length table) start room n has)
      (limited (length table) start room n has) (le_refl (table_need n room)) B.is))

  into_leaves : admits (length from) g 0 1 0 1 ≡ fine → flat_into from (handles g) table start work room ≡ refused → Claim
  unfolding flat_into
  into_leaves ok e = first (ltb 8 n) refl e where
    second : n ≤ 8 → (b : Bool) → lent_right (length table) start (length work) room n ≡ b
        → pick b (lent_back table start work n room (flat_in (table_need n room) (take (work_need n room) work) from (handles g) n room)) (making (refused_made 4 0) table work) ≡ refused
        → Claim
    second few true l h = built_leaves (record { admitted = ok; generators = few; lent = l }) h
    second few false l h = refuses {s = numbered 4 0 0 0} (λ R. false_true (sym l ∙ R.lent)) refl h

    first : (b : Bool) → ltb 8 n ≡ b
        → pick b (making (refused_made 1 n) table work)
        (pick (lent_right (length table) start (length work) room n)
        (lent_back table start work n room (flat_in (table_need n room) (take (work_need n room) work) from (handles g) n room)) (making (refused_made 4 0) table work)) ≡ refused
        → Claim
    first true l h = refuses {s = numbered 1 n 0 0} (λ R. omega (arith, R.generators, ltb-true 8 n l)) refl h
    first false l h = second (ltb-false 8 n l) (lent_right (length table) start (length work) room n) refl h

  pub flat_leaves : flat from g table start work room ≡ making (Err r) t w
      → Leaves (FlatRight from g table start work room) flat_before flat_after (lent_for table start work (generators_of (handles g)) room t w) r
  unfolding flat
  flat_leaves h = by (admits (length from) g 0 1 0 1) refl h where
    by : (v : Verdict) → admits (length from) g 0 1 0 1 ≡ v → if_making v table work (flat_into from (handles g) table start work room) ≡ refused → Claim
    by (Ok _) q e = into_leaves q e
    by (Err s) q e = refuses (λ R. fine_refused (sym R.admitted ∙ q)) (admits_number (length from) g q) e
