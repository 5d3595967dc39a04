-- What `from_composed`, `enumerate` and `begin` test before their build.
use Prim.Native.Nat.{ℕ, ◌+◌, ◌*◌}
use mathlib.Core.Path.{◌≡◌, refl, sym, ap, ◌∙◌}
use mathlib.Core.Bool.{Bool, true, false, ◌&&◌}
use mathlib.Core.List.{List, [], ◌∷◌}
use borrow.Author.Tests.{le-leb, leb-true, ltb-true, ltb-false}
use native.Mathlib.Omega.{arith}
use lib.Dec.{leb, ltb}
use lib.ListN.{length, take, replicate}
use Rattle.egg.specs.declared.Refusal.{Refusal}
use Rattle.egg.specs.Answers.{Verdict, fine}
use Rattle.egg.specs.Refusals.{refusal_paper}
use Rattle.std.specs.Prelude.{Ok, Err}
use Rattle.egg.specs.Answers.{numbered}
use Rattle.egg.specs.Pairs.{orders_right}
use Rattle.egg.specs.Factor.{has_room}
use Rattle.egg.proofs.Rooms.{false_true, and_first, and_second, room_generators}
use Rattle.egg.proofs.Scans.{refused_fine}
use Rattle.build_lending.specs.Lending.{table_need, work_need, lent_right, within, lent_back}
use Rattle.build_checks_laws.specs.Numbers.{member, RefusalIn}
use Rattle.build_checks_laws.proofs.Numbers.{each_in, orders_number}
use Rattle.builder.specs.Calls.{leaving, builder_of, begins}
use Rattle.factor.specs.Composed.{composed_in, composed}
use Rattle.enumeration.specs.Calls.{enumerated_in, enumerates}
use Rattle.factor_laws.proofs.Refuses.{verdict_fine, verdict_refused}
use Rattle.promises.specs.Composed.{RowsRight}
use Rattle.promises.specs.Enumerated.{EnumerationRight}
use Rattle.names.specs.Arguments.{composed_right, enumerate_right, begin_right}
use Rattle.promises_names.specs.LongNames.{TestsFirst, unmade, unbegun}

pub same_why : {s r : Refusal} → ◌≡◌ {A = Verdict} (Err s) (Err r) → s ≡ r
same_why h = cc

-- A test passes, or it refuses.
module _ {A : Type 0} {right : Type 0} {before : List ℕ} {v : Verdict} {call build : A} {touchesNothing : Refusal → A} where
  tests_fine : v ≡ fine → right → call ≡ build → TestsFirst right before v call build touchesNothing
  tests_fine e R q = record {
    starts = (λ h. R, λ h. e);
    numbers = rw e verdict_fine;
    goes_on = λ h. q;
    refused = λ h. absurd (refused_fine (sym h ∙ e));
  }

  tests_refused : (s : Refusal) → v ≡ Err s → ¬ right → RefusalIn before s → call ≡ touchesNothing s
      → TestsFirst right before v call build touchesNothing
  tests_refused s e wrong m q = record {
    starts = (λ h. absurd (refused_fine (sym e ∙ h)), λ R. absurd (wrong R));
    numbers = rw e (verdict_refused s m);
    goes_on = λ h. absurd (refused_fine (sym e ∙ h));
    refused = λ h. q ∙ ap touchesNothing (same_why (sym e ∙ h));
  }

module _ (table : List ℕ) (start : ℕ) (work rows : List ℕ) (n room : ℕ) where
  abbrev rows_lent : Bool
  rows_lent = lent_right (length table) start (length work) room n && leb (room * n) (length rows)

  right_lent : RowsRight table start work rows n room → rows_lent ≡ true
  right_lent R = rw R.lent (le-leb _ _ R.listed)

  -- 1, then 4.
  pub composed_tests : TestsFirst (RowsRight table start work rows n room) (1 ∷ 4 ∷ [])
      (composed_right (length table) start (length work) (length rows) n room) (composed table start work rows n room)
      (lent_back table start work n room (composed_in (table_need n room) (take (work_need n room) work) rows n room)) (unmade table work)
  unfolding composed_right composed
  composed_tests = by (ltb 8 n) refl rows_lent refl where
    by : (a : Bool) → ltb 8 n ≡ a → (b : Bool) → rows_lent ≡ b
        → TestsFirst (RowsRight table start work rows n room) (1 ∷ 4 ∷ [])
        (composed_right (length table) start (length work) (length rows) n room) (composed table start work rows n room)
        (lent_back table start work n room (composed_in (table_need n room) (take (work_need n room) work) rows n room)) (unmade table work)
    by true p b q = tests_refused (numbered 1 n 0 0) (rw p) (λ R. omega (arith, ltb-true 8 n p, R.generators)) refl (rw p)
    by false p true q =
        let l = lent_right (length table) start (length work) room n in
        tests_fine (rw (p, q)) (record { generators = ltb-false 8 n p; lent = and_first l _ q; listed = leb-true _ _ (and_second l _ q) }) (rw (p, q))
    by false p false q = tests_refused (numbered 4 0 0 0) (rw (p, q)) (λ R. false_true (sym q ∙ right_lent R)) refl (rw (p, q))

module _ (table : List ℕ) (start : ℕ) (work orders : List ℕ) (n room : ℕ) where
  abbrev Tested : Type 0
  Tested = TestsFirst (EnumerationRight table start work orders n room) (1 ∷ 2 ∷ 3 ∷ 4 ∷ [])
      (enumerate_right (length table) start (length work) orders n room) (enumerates table start work orders n room)
      (lent_back table start work n room (enumerated_in (table_need n room) (work_need n room) orders n room)) (unmade table work)

  -- 1, then 2 and 3, then 4.
  pub enumerate_tests : TestsFirst (EnumerationRight table start work orders n room) (1 ∷ 2 ∷ 3 ∷ 4 ∷ [])
      (enumerate_right (length table) start (length work) orders n room) (enumerates table start work orders n room)
      (lent_back table start work n room (enumerated_in (table_need n room) (work_need n room) orders n room)) (unmade table work)
  unfolding enumerate_right enumerates
  enumerate_tests = by (ltb 8 n) refl (orders_right orders n) refl (lent_right (length table) start (length work) room n) refl where
    by : (a : Bool) → ltb 8 n ≡ a → (v : Verdict) → orders_right orders n ≡ v → (b : Bool) → lent_right (length table) start (length work) room n ≡ b → Tested
    by true p v o b q = tests_refused (numbered 1 n 0 0) (rw p) (λ R. omega (arith, ltb-true 8 n p, R.generators)) refl (rw p)
    by false p (Err r) o b q =
        tests_refused r (rw (p, o)) (λ R. refused_fine (sym o ∙ R.right))
        (each_in (λ x. member x (1 ∷ 2 ∷ 3 ∷ 4 ∷ [])) (refusal_paper r).number (2 ∷ 3 ∷ []) refl (orders_number orders n o)) (rw (p, o))
    by false p (Ok _) o true q = tests_fine (rw (p, o, q)) (record { generators = ltb-false 8 n p; right = o; lent = q }) (rw (p, o, q))
    by false p (Ok _) o false q = tests_refused (numbered 4 0 0 0) (rw (p, o, q)) (λ R. false_true (sym q ∙ R.lent)) refl (rw (p, o, q))

module _ (table : List ℕ) (start room n : ℕ) where
  abbrev Begins : Type 0
  Begins = TestsFirst (has_room (length table) start room n ≡ true) (1 ∷ 4 ∷ []) (begin_right (length table) start room n) (begins table start room n)
      (leaving (Ok (builder_of start room n 1)) (within table start (start + table_need n room) (replicate (table_need n room) 0)))
      (unbegun table)

  -- 1, then 4.
  pub begin_tests : TestsFirst (has_room (length table) start room n ≡ true) (1 ∷ 4 ∷ []) (begin_right (length table) start room n) (begins table start room n)
      (leaving (Ok (builder_of start room n 1)) (within table start (start + table_need n room) (replicate (table_need n room) 0)))
      (unbegun table)
  unfolding begin_right begins
  begin_tests = by (ltb 8 n) refl (has_room (length table) start room n) refl where
    by : (a : Bool) → ltb 8 n ≡ a → (b : Bool) → has_room (length table) start room n ≡ b → Begins
    by true p b q = tests_refused (numbered 1 n 0 0) (rw p) (λ R. false_true (room_generators (length table) start room n (ltb-true 8 n p) ∙ R)) refl (rw p)
    by false p true q = tests_fine (rw (p, q)) q (rw (p, q))
    by false p false q = tests_refused (numbered 4 0 0 0) (rw (p, q)) (λ R. false_true (sym q ∙ R)) refl (rw (p, q))
