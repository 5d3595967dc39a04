-- What the handle of an accepted enumeration says, by the call's own definition: it is that of the stretch that was asked for, and it has at most as many
-- elements as there was room for. That its table is the group of the orders is promised above.
use Prim.Native.Nat.{ℕ, ◌≤◌}
use mathlib.Core.Path.{◌≡◌, refl, sym, ap, ◌∙◌}
use mathlib.Core.Bool.{Bool, true, false}
use mathlib.Core.List.{List}
use native.Mathlib.Omega.{arith}
use borrow.Author.Tests.{le-ltb, ltb-false}
use lib.ListN.{length}
use lib.Dec.{ltb}
use Rattle.egg.specs.declared.Factor.{Factor}
use Rattle.egg.specs.Answers.{Verdict, fine}
use Rattle.std.specs.Prelude.{Ok, Err}
use Rattle.egg.specs.Table.{pick}
use Rattle.egg.specs.Pairs.{orders_right}
use Rattle.build_lending.specs.Finish.{built, finished}
use Rattle.build_lending.specs.Lending.{table_need, work_need, lent_right, refused_made, Making, making, lent_back}
use Rattle.build_laws.proofs.Lent.{refused_making_lem, handle, by_build}
use Rattle.build_laws.proofs.Settled.{by_count}
use Rattle.enumeration_run.specs.declared.inner.Ran.{Ran}
use Rattle.enumeration_run.specs.declared.inner.Ran.TheVariants as ran
use Rattle.enumeration_run.specs.Run.{enumerated}
use Rattle.enumeration_run.specs.Limits.{Limits}
use Rattle.enumeration_run_laws.proofs.Derivation.{done_sound}
use Rattle.enumeration_run_laws.proofs.Ending.{never_paused}
use Rattle.enumeration.specs.Calls.{ran_count, enumerated_in, refused_making, enumerates}
use Rattle.enumeration.proofs.Calls.{by_relations, limits}

module _ {n : ℕ} {o : List ℕ} {room lt lw : ℕ} (L : Limits n o room lt lw) where
  -- A run that counts N is done with N elements.
  pub done : (a : Ran) → (enumerated n o room lt lw).answer ≡ a → {N : ℕ} → ran_count a ≡ Ok N → (enumerated n o room lt lw).answer ≡ ran.Done N
  done (ran.Done c) e q = e ∙ ap ran.Done (cc)
  done (ran.Paused at) e q = absurd (never_paused L e)
  done (ran.Refused r) e {N} q = absurd (never q) where
    never : Err r ≡ Ok N → ⊥
    never x = let z : ◌≡◌ {A = ℕ} 0 1 = cc in omega arith

  -- A build that is accepted with N elements has at most as many as there was room for.
  enumerated_within : {N : ℕ} {t w : List ℕ} → enumerated_in lt lw o n room ≡ built (Ok N) t w → N ≤ room
  unfolding enumerated_in
  enumerated_within q =
      let a = by_relations n o (finished (ran_count (enumerated n o room lt lw).answer) n (enumerated n o room lt lw).table (enumerated n o room lt lw).work) q in
      let b = by_count (ran_count (enumerated n o room lt lw).answer) n (enumerated n o room lt lw).table (enumerated n o room lt lw).work a.0 in
      (done_sound L (done (enumerated n o room lt lw).answer refl b.0)).fits

-- Where 1 to 4 pass, the call is the build in its stretches, put back into the buffers.
module _ (table : List ℕ) (start : ℕ) (work orders : List ℕ) (n room : ℕ) (generators : n ≤ 8) (right : orders_right orders n ≡ fine)
    (lent : lent_right (length table) start (length work) room n ≡ true) where
  pub enumerates_is_build : enumerates table start work orders n room
      ≡ lent_back table start work n room (enumerated_in (table_need n room) (work_need n room) orders n room)
  unfolding enumerates
  enumerates_is_build = simp (le-ltb _ _ generators, right, lent)

module _ (table : List ℕ) (start : ℕ) (work orders : List ℕ) (n room : ℕ) where
  abbrev Passed : Type 0
  Passed = (n ≤ 8) × (orders_right orders n ≡ fine) × (lent_right (length table) start (length work) room n ≡ true)

  module _ (f : Factor) (t w : List ℕ) where
    abbrev accepted : Making
    accepted = making (Ok f) t w

    -- Where the call is accepted, 1 to 4 have passed.
    pub passed : enumerates table start work orders n room ≡ accepted → Passed
    unfolding enumerates
    passed h = first (ltb 8 n) refl h where
      third : (v : Verdict) → orders_right orders n ≡ v → ltb 8 n ≡ false → (b : Bool) → lent_right (length table) start (length work) room n ≡ b
          → refused_making v table work (pick b (lent_back table start work n room (enumerated_in (table_need n room) (work_need n room) orders n room))
          (making (refused_made 4 0) table work)) ≡ accepted
          → Passed
      third (Ok _) o g true l e = (ltb-false 8 n g, o, l)
      third (Ok _) o g false l e = absurd (refused_making_lem e)
      third (Err r) o g b l e = absurd (refused_making_lem e)

      first : (a : Bool) → ltb 8 n ≡ a
          → pick a (making (refused_made 1 n) table work)
          (refused_making (orders_right orders n) table work
          (pick (lent_right (length table) start (length work) room n)
          (lent_back table start work n room (enumerated_in (table_need n room) (work_need n room) orders n room))
          (making (refused_made 4 0) table work))) ≡ accepted
          → Passed
      first true g e = absurd (refused_making_lem e)
      first false g e = third (orders_right orders n) refl g (lent_right (length table) start (length work) room n) refl e

    pub accepted_handle : enumerates table start work orders n room ≡ accepted
        → (f ≡ handle start n room f.elements) × (f.elements ≤ room)
    accepted_handle h =
        let (g, o, l) = passed h in
        let b = by_build table start work n room (enumerated_in (table_need n room) (work_need n room) orders n room)
        (sym (enumerates_is_build table start work orders n room g o l) ∙ h) in
        let same : f.elements ≡ b.0 = ap (λ (x : Factor). x.elements) b.3.1.0 in
        let most = enumerated_within (limits table start work orders n room g o l) b.3.0 in
        (b.3.1.0 ∙ ap (handle start n room) (sym same), omega arith)
