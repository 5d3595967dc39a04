-- Which pair orders are accepted: with right arguments exactly those whose run is done, and these are exactly those whose group fits the room. A refusal is one of
-- 1 to 6.
use Rattle.egg.specs.Answers.{Made, fine}
use Prim.Native.Nat.{ℕ, ◌<◌, ◌≤◌}
use mathlib.Core.Path.{◌≡◌, refl, sym, ap, ◌∙◌, subst}
use mathlib.Core.Logic.{◌↔◌, ⊎_elim}
use mathlib.Core.Bool.{true}
use mathlib.Core.List.{List, [], ◌∷◌}
use native.Mathlib.Nat.{lt_trans}
use native.Mathlib.Omega.{arith}
use lib.ListN.{length}
use Rattle.egg.specs.declared.Factor.{Factor}
use Rattle.egg.specs.declared.Refusal.{Refusal}
use Rattle.egg.specs.Refusals.{refusal_paper}
use Rattle.std.specs.Prelude.{Ok, Err}
use Rattle.egg.specs.Pairs.{orders_right}
use Rattle.egg.specs.Table.{step_of}
use Rattle.build_lending.specs.Lending.{table_need, work_need, lent_right, making}
use Rattle.enumeration_run.specs.Run.{enumerated}
use Rattle.enumeration_run.specs.declared.inner.Ran.{Ran}
use Rattle.enumeration_run.specs.declared.inner.Ran.TheVariants as ran
use Rattle.enumeration.specs.Calls.{enumerated_in, enumerates}
use Rattle.enumeration.proofs.Calls.{limits}
use Rattle.theory.specs.Words.{empty, walk}
use Rattle.theory.specs.Appearance.{recorded}
use Rattle.theory.specs.Presentation.{order_of, alternate, Equiv}
use Rattle.theory.proofs.Shortest.{recorded_best}
use Rattle.theory.proofs.Relations.{alternate_word}
use Rattle.theory.proofs.Presented.{presented}
use Rattle.build_checks_laws.specs.Stored.{word_of}
use Rattle.build_checks_laws.specs.Numbers.{member, RefusalIn}
use Rattle.build_checks_laws.proofs.Numbers.{each_in, none_of}
use Rattle.factor_laws.specs.Accepted.{factor_step}
use Rattle.enumeration_run_laws.proofs.Ending.{never_paused}
use Rattle.build_laws.proofs.Lent.{by_build, refused_making_lem}
use Rattle.promises.specs.Enumerated.{EnumerationRight}
use Rattle.promises.specs.Leaves.{Leaves, untouched, zeros, lent_for, enumeration_numbers}
use Rattle.promises.proofs.Derived.{Related, enumerated_related}
use Rattle.promises.proofs.Enumerated.{begun, enumeration_accepted}
use Rattle.enumeration.proofs.Handle.{enumerates_is_build}
use Rattle.promises.proofs.NoneTwice.{enumeration_exactly}
use Rattle.promises.proofs.Stops.{enumeration_stops}
use Rattle.promises.proofs.Leaves.{enumeration_refused, tested_leaves}
use Rattle.promises_enumeration.specs.Presented.{FittingTable, FittingGroup}
use Rattle.promises_enumeration.proofs.Orders.{right_exact}
use Rattle.promises_enumeration.proofs.Accepting.{Takes, fitting_accepted}
use Rattle.promises_enumeration.proofs.Finishing.{done_accepted}
use Rattle.promises_enumeration.proofs.Groups.{group_fitting, fitting_group}

-- Two refusals of one call are one.
one_refusal : {r s : Refusal} {t t' w w' : List ℕ} → making (Err r) t w ≡ making (Err s) t' w' → r ≡ s
one_refusal {r} {s} h = let m : ◌≡◌ {A = Made} (Err r) (Err s) = cc in cc

module _ (table : List ℕ) (start : ℕ) (work orders : List ℕ) (n room : ℕ) (hn : n ≤ 8) (right : orders_right orders n ≡ fine)
    (lent : lent_right (length table) start (length work) room n ≡ true) where
  -- With right arguments the call is accepted exactly when its run is done.
  pub enumeration_done : ((f : Factor) × (t : List ℕ) × (w : List ℕ) × (enumerates table start work orders n room ≡ making (Ok f) t w))
      ↔ ((N : ℕ) × ((enumerated n orders room (table_need n room) (work_need n room)).answer ≡ ran.Done N))
  enumeration_done = (
    λ a. let d = (enumeration_exactly table start work orders n room hn right lent).0 a in (d.0, d.1),
    λ d. done_accepted table start work orders n room hn right lent d.1,
  )

  -- What is accepted is the table of a group that the orders present.
  accepted_fitting : Takes table start work orders n room → FittingTable n (order_of orders) room
  accepted_fitting a =
      let b = by_build table start work n room (enumerated_in (table_need n room) (work_need n room) orders n room)
      (sym (enumerates_is_build table start work orders n room hn right lent) ∙ a.3) in
      fits (enumerated_related orders n room (table_need n room) (work_need n room) (limits table start work orders n room hn right lent) right b.3.0) where
        fits : {N : ℕ} {s v : List ℕ}
            → Related orders n room (table_need n room) (work_need n room) (limits table start work orders n room hn right lent) right N s v → FittingTable n (order_of orders) room
        fits {N} {s} R = record {
          N = N;
          step = step_of s n;
          presented = record {
            numbered = R.ruled.rule.numbered;
            holds = R.holds;
            faithful = λ hu hv. (presented R.sound.table R.holds R.sound.spelled R.derived hu hv).0;
          };
          within_room = R.within_room;
          short = λ e he.
              let best : length (recorded n (step_of s n) (walk (step_of s n) 0 (word_of s n e))) ≤ length (word_of s n e) = (recorded_best R.ruled.rule.numbered (R.sound.spelled.over he)).0 in
              omega (arith, rw (R.sound.spelled.spells he) at best, R.sound.stored.lengths he, R.sound.short he);
        }

  -- With right arguments the call is accepted exactly when the orders present a group, on any carrier, of at most `room` elements, each of which a word of at most
  -- 4,096 letters reaches.
  pub enumeration_complete : ((f : Factor) × (t : List ℕ) × (w : List ℕ) × (enumerates table start work orders n room ≡ making (Ok f) t w))
      ↔ FittingGroup n (order_of orders) room
  enumeration_complete = (
    λ a. fitting_group (accepted_fitting a),
    λ G. fitting_accepted table start work orders n room hn right lent (group_fitting G),
  )

  -- Where it is refused, it is by 5 or 6.
  pub enumeration_stopped : {r : Refusal} {t w : List ℕ} → enumerates table start work orders n room ≡ making (Err r) t w
      → member (refusal_paper r).number (5 ∷ 6 ∷ []) ≡ true
  enumeration_stopped {r} {t} {w} q = by (enumerated n orders room (table_need n room) (work_need n room)).answer refl where
    by : (a : Ran) → (enumerated n orders room (table_need n room) (work_need n room)).answer ≡ a → member (refusal_paper r).number (5 ∷ 6 ∷ []) ≡ true
    by (ran.Done N) e = let a = enumeration_done.1 (N, e) in absurd (refused_making_lem (sym q ∙ a.3))
    by (ran.Paused at) e = absurd (never_paused (limits table start work orders n room hn right lent) e)
    by (ran.Refused s) e = let a = (enumeration_stops table start work orders n room hn right lent s).1 e in subst (λ (x : Refusal). member (refusal_paper x).number (5 ∷ 6 ∷ []) ≡ true) (one_refusal (sym a.2 ∙ q)) a.3

-- Whatever the arguments, a refusal is one of 1 to 6: 9 to 13 never come after a run.
pub enumeration_refuses : (table : List ℕ) (start : ℕ) (work orders : List ℕ) (n room : ℕ) {r : Refusal} {t w : List ℕ}
    → enumerates table start work orders n room ≡ making (Err r) t w → member (refusal_paper r).number (1 ∷ 2 ∷ 3 ∷ 4 ∷ 5 ∷ 6 ∷ []) ≡ true
enumeration_refuses table start work orders n room {r} {t} {w} q = ⊎_elim
    (λ E. each_in (λ x. member x (1 ∷ 2 ∷ 3 ∷ 4 ∷ 5 ∷ 6 ∷ [])) (refusal_paper r).number (1 ∷ 2 ∷ 3 ∷ 4 ∷ []) refl E.number)
    (λ B. each_in (λ x. member x (1 ∷ 2 ∷ 3 ∷ 4 ∷ 5 ∷ 6 ∷ [])) (refusal_paper r).number (5 ∷ 6 ∷ []) refl
    (enumeration_stopped table start work orders n room B.0.generators B.0.right B.0.lent q))
    (enumeration_refused table start work orders n room r t w q)

-- So none of 7 to 17 comes.
pub enumeration_never : (table : List ℕ) (start : ℕ) (work orders : List ℕ) (n room : ℕ) {r : Refusal} {t w : List ℕ}
    → enumerates table start work orders n room ≡ making (Err r) t w
    → ¬ (RefusalIn (7 ∷ 8 ∷ 9 ∷ 10 ∷ 11 ∷ 12 ∷ 13 ∷ 14 ∷ 15 ∷ 16 ∷ 17 ∷ []) r)
enumeration_never table start work orders n room {r} q m =
    none_of (refusal_paper r).number (7 ∷ 8 ∷ 9 ∷ 10 ∷ 11 ∷ 12 ∷ 13 ∷ 14 ∷ 15 ∷ 16 ∷ 17 ∷ []) (1 ∷ 2 ∷ 3 ∷ 4 ∷ 5 ∷ 6 ∷ []) refl m
    (enumeration_refuses table start work orders n room q)

-- What a refused call leaves: with wrong arguments, by 1 to 4, both buffers as they were; once it has started, by 5 or 6, zeros in exactly the needed stretches.
pub enumeration_leaves : (table : List ℕ) (start : ℕ) (work orders : List ℕ) (n room : ℕ) {r : Refusal} {t w : List ℕ}
    → enumerates table start work orders n room ≡ making (Err r) t w
    → Leaves (EnumerationRight table start work orders n room) (1 ∷ 2 ∷ 3 ∷ 4 ∷ []) (5 ∷ 6 ∷ []) (lent_for table start work n room t w) r
enumeration_leaves table start work orders n room {r} {t} {w} q = by (tested_leaves table start work orders n room r t w q) where
  by : Leaves (EnumerationRight table start work orders n room) (1 ∷ 2 ∷ 3 ∷ 4 ∷ []) enumeration_numbers (lent_for table start work n room t w) r
      → Leaves (EnumerationRight table start work orders n room) (1 ∷ 2 ∷ 3 ∷ 4 ∷ []) (5 ∷ 6 ∷ []) (lent_for table start work n room t w) r
  by (untouched wrong m s) = untouched wrong m s
  by (zeros R m z) = zeros R (enumeration_stopped table start work orders n room R.generators R.right R.lent q) z

-- In an accepted factor the product of two generators has exactly the order that was given: no smaller power leads back to the identity.
pub enumeration_orders : (table : List ℕ) (start : ℕ) (work orders : List ℕ) (n room : ℕ) (f : Factor) (t w : List ℕ)
    → enumerates table start work orders n room ≡ making (Ok f) t w
    → {i j k : ℕ} → i < j → j < n → 0 < k → k < order_of orders i j → ¬ (walk (factor_step t f) 0 (alternate i j k) ≡ 0)
enumeration_orders table start work orders n room f t w q {i} {j} {k} hi hj pos l e =
    let B = begun table start work orders n room f t w q in
    let E = enumeration_accepted table start work orders n room f t w q in
    let g : f.generators ≡ n = ap (λ (x : Factor). x.generators) E.handle in
    let hi' : i < f.generators = rw g (lt_trans hi hj) in
    let hj' : j < f.generators = rw g hj in
    (right_exact orders n B.right).exact hi hj pos l
    (subst (λ (x : ℕ). Equiv x (order_of orders) (alternate i j k) []) g ((E.demand_3.presented (alternate_word hi' hj' k) empty).0 e))
